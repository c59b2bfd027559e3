-- Inputs that agree where scoring looks get the same scores. Assumes nothing.
use Rattle.std.specs.Prelude.{Ok}
use mathlib.Core.Path.{◌≡◌, sym, ◌∙◌}
use lib.ListN.{take}
use lib.Seq.{take_at}
use Rattle.refusals.proofs.Laws.{both}
use Rattle.lines.proofs.Fronts.{length_states, length_transitions}
use Rattle.refusals.specs.Said.{accepted, said_of}
use Rattle.refusals.proofs.Said.{done_said}
use Rattle.same_scores.proofs.Same.{only_named_matters}
use Rattle.compute_scores.specs.Promise.{Given, Buffers, Outcome, state_entries, transition_entries, states_of_line, transitions_of_line, checked_of, scores_finished_of, answer_to, states_after, transitions_after, Promised}
use Rattle.compute_scores.specs.Independent.{scoring_input_of, SameScores}

-- the fronts of a line that is scored hold its scores
module _ (given : Given) (before : Buffers) (outcome : Outcome) (kept : Promised given before outcome) (scored : said_of outcome.answer ≡ accepted tt) where
  passed : (checked_of given before ≡ Ok tt) × (scores_finished_of given ≡ Ok tt)
  unfolding answer_to
  passed = both (checked_of given before) (scores_finished_of given) ((done_said _).0 (sym kept.answers ∙ scored))

  front_states : take (state_entries given) outcome.states ≡ states_of_line given
  unfolding states_after
  front_states = rw (kept.states, passed.0, passed.1) (take_at (states_of_line given) _ (state_entries given) (length_states given.model given.weights given.line 0 given.words))

  front_transitions : take (transition_entries given) outcome.transitions ≡ transitions_of_line given
  unfolding transitions_after
  front_transitions = rw (kept.transitions, passed.0, passed.1) (take_at (transitions_of_line given) _ (transition_entries given) (length_transitions given.model given.weights))

pub same_scores_lem : SameScores
same_scores_lem a b agree before other x y p q xs ys =
    let s = only_named_matters (scoring_input_of a) (scoring_input_of b) agree in
    record {
      transitions = front_transitions a before x p xs ∙ s.same_transitions ∙ sym (front_transitions b other y q ys);
      states = front_states a before x p xs ∙ s.same_states ∙ sym (front_states b other y q ys);
    }
