-- What an accepted line gives its labelling, and how that keeps the promise. Assumes nothing.
use Rattle.viterbi_end.specs.declared.Found.{Found}
use Rattle.std.specs.Prelude.{Ok, Err, Result}
use mathlib.Core.Path.{◌≡◌}
use mathlib.Core.List.{List}
use Prim.Native.Nat.{ℕ}
use lib.ListN.{length}
use Rattle.refusals.specs.declared.Refusal.{Refusal}
use Rattle.refusals.specs.Refusals.{or_next_of}
use Rattle.line_check.proofs.Meant.{scoring_sound}
use Rattle.labelling.specs.Labelled.{Labelled}
use Rattle.compute_scores.specs.Promise.{Given, states_of_line, transitions_of_line}
use Rattle.label_line.specs.Promise.{checked_of, answer_to, labels_after, SoundLabelling, Promised}
use Rattle.label_line.proofs.Parted.{own, accepts}

module _ (given : Given) (before : List ℕ) where
  -- a refusal beforehand leaves the path
  pub refused_kept : (why : Refusal) → checked_of given before ≡ Err why → Promised given before (record { answer = Err why; path = before })
  unfolding answer_to labels_after or_next_of
  refused_kept why h = record { answers = rw h; path = rw h }

  -- nothing is refused beforehand
  module _ (accepted : checked_of given before ≡ Ok tt) where
    pub sound : SoundLabelling given before
    sound =
        let a = accepts given (length before) accepted in
        let s = scoring_sound (own given (length before)) a.0 in
        record { model = s.model; line = s.line; long_path = a.1 }

    pub labelled_kept : (answer : Result Found Refusal) {after : List ℕ} → Labelled given.model.labels given.words (transitions_of_line given) (states_of_line given) before answer after → Promised given before (record { answer = answer; path = after })
    unfolding answer_to labels_after or_next_of
    labelled_kept answer l = record { answers = rw accepted l.answers; path = rw (accepted, l.path) }
