-- What an accepted line gives its scores' tables, and how the call keeps its promise. Assumes nothing.
use Rattle.std.specs.Prelude.{Ok, Err}
use mathlib.Core.Path.{◌≡◌, ◌∙◌}
use mathlib.Core.List.{List, ◌++◌}
use native.Mathlib.Nat.{mul-le-mul}
use lib.ListN.{length, drop}
use lib.Ieee.{Float}
use Rattle.refusals.specs.declared.Refusal.{Refusal}
use Rattle.refusals.specs.Refusals.{Checked, or_next_of}
use Rattle.score_tables.specs.Sound.{ScoresSized}
use Rattle.lines.proofs.Fronts.{length_states, length_transitions}
use Rattle.line_check.specs.Sound.{SoundScoring}
use Rattle.finished.specs.Rows.{scores_finished}
use Rattle.finished.specs.After.{cleared_where}
use Rattle.finished.proofs.Laws.{scores_front, contents_kept}
use Rattle.compute_scores.specs.Promise.{Given, Buffers, state_entries, transition_entries, states_of_line, transitions_of_line, scoring_of, checked_of, scores_finished_of, answer_to, states_after, transitions_after, Promised}

-- tables that are as long as an accepted call's buffers have room
pub sized : (given : Given) (before : Buffers) → SoundScoring (scoring_of given before) → (states transitions : List Float) → length states ≡ length before.states → length transitions ≡ length before.transitions → ScoresSized given.model.labels given.words transitions states
sized given before s states transitions p q =
    let l = s.model.sound.labels_in in
    let w = s.line.words_in_lem in
    record {
      labels_in = l;
      words_in_lem = w;
      room = record { long_transitions = rw q s.fits.transitions; long_states = rw p s.fits.states };
      few_transitions = mul-le-mul l.high l.high;
      few_states = mul-le-mul w.high l.high;
    }

-- 8 of the buffers is 8 of the line's scores
pub finished_is : (given : Given) (before : Buffers) {states transitions : List Float} → states ≡ states_of_line given ++ drop (state_entries given) before.states → transitions ≡ transitions_of_line given ++ drop (transition_entries given) before.transitions → scores_finished given.model.labels given.words states transitions ≡ scores_finished_of given
finished_is given before p q =
    rw (p, q)
    (scores_front given.model.labels given.words (states_of_line given) (transitions_of_line given) _ _
    (length_states given.model given.weights given.line 0 given.words)
    (length_transitions given.model given.weights))

-- a refusal beforehand leaves the buffers
pub refused_kept : (given : Given) (before : Buffers) {answer : Checked} {states transitions : List Float} (why : Refusal) →
    checked_of given before ≡ Err why →
    answer ≡ Err why →
    states ≡ before.states →
    transitions ≡ before.transitions →
    Promised given before (record { answer = answer; states = states; transitions = transitions })
unfolding answer_to states_after transitions_after or_next_of
refused_kept given before why h e p q = record { answers = rw (h, e); states = rw h p; transitions = rw h q }

-- the scores were made, and cleared where 8 is given
module _ (given : Given) (before : Buffers) (accepted : checked_of given before ≡ Ok tt) where
  pub made_kept : {states transitions after after' : List Float} {r : Checked} →
      states ≡ states_of_line given ++ drop (state_entries given) before.states →
      transitions ≡ transitions_of_line given ++ drop (transition_entries given) before.transitions →
      r ≡ scores_finished given.model.labels given.words states transitions →
      after ≡ cleared_where r (state_entries given) states →
      after' ≡ cleared_where r (transition_entries given) transitions →
      Promised given before (record { answer = r; states = after; transitions = after' })
  unfolding answer_to states_after transitions_after or_next_of
  made_kept {r = r} p q f s t =
      let e : r ≡ scores_finished_of given = f ∙ finished_is given before p q in
      record {
        answers = rw (accepted, ← e);
        states = rw (accepted, ← e, contents_kept r (state_entries given) before.states (states_of_line given) (length_states given.model given.weights given.line 0 given.words) p s);
        transitions = rw (accepted, ← e, contents_kept r (transition_entries given) before.transitions (transitions_of_line given) (length_transitions given.model given.weights) q t);
      }
