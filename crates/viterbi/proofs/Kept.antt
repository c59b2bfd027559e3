-- What the rows of refusals give the call: an accepted call meets what decoding relies on, and either way the promise is kept. Assumes nothing.
use Rattle.std.specs.Prelude.{Ok, Err}
use mathlib.Core.Path.{◌≡◌}
use mathlib.Core.List.{List}
use Prim.Native.Nat.{ℕ, ◌≤◌}
use lib.ListN.{length}
use Rattle.refusals.specs.declared.Refusal.{Refusal}
use Rattle.best_path.specs.Scores.{AllFinite}
use Rattle.score_tables.specs.Sound.{SoundScores}
use Rattle.viterbi_end.specs.declared.Found.{Found}
use Rattle.viterbi.proofs.Meant.{decoding_means}
use Rattle.viterbi.specs.Answered.{Ready, Answered}
use Rattle.viterbi.specs.Promise.{Given, scores_of, checked_of, answer_to, path_after, Promised}

module _ (given : Given) (before : List ℕ) (accepted : checked_of given before ≡ Ok tt) where
  abbrev fine : SoundScores given.labels given.words given.transitions given.states × (given.words ≤ length before)
  fine = (decoding_means _ _ _ _ _).accepted.0 accepted

  -- an accepted call meets what decoding relies on
  pub ready : Ready given.labels given.words given.transitions given.states before
  ready = record { sized = fine.0.sized; long_path = fine.1 }

  -- and all its scores are finite
  pub all_finite : AllFinite (scores_of given) given.words
  all_finite = fine.0.finite

  pub decoded_kept : (found : Found) (after : List ℕ) → Answered given.labels given.words given.transitions given.states before found after → Promised given before (record { answer = Ok found; path = after })
  unfolding answer_to path_after
  decoded_kept found after a = record { answers = rw (accepted, a.sum, a.lead_is); path = rw (accepted, a.path) }

-- a refused call gives its refusal and leaves the buffer
pub refused_kept : (given : Given) (before : List ℕ) (why : Refusal) → checked_of given before ≡ Err why → Promised given before (record { answer = Err why; path = before })
unfolding answer_to path_after
refused_kept given before why h = record { answers = rw h; path = rw h }
