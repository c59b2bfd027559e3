-- "Two inputs that agree on L, on the line, on the lists of attributes in it with the features named there, and on the label lists with theirs, get the same scores and path, as long as both are accepted": the scores, of whatever satisfies the promise. `Agree` is in same_scores. The proof is in proofs/Independent.
use Rattle.std.specs.Prelude.{◌≡◌, take}
use Rattle.refusals.specs.Said.{accepted, said_of}
use Rattle.same_scores.specs.Named.{ScoringInput}
use Rattle.same_scores.specs.Agree.{Agree}
use Rattle.compute_scores.specs.Promise.{Given, Buffers, Outcome, state_entries, transition_entries, Promised}

abbrev pub scoring_input_of : Given → ScoringInput
scoring_input_of given = record {
  model = given.model;
  weights = given.weights;
  table = given.line;
  first = 0;
  words = given.words;
}

-- the needed fronts hold the same
pub record SameScoreFronts (a b : Given) (x y : Outcome) : Type 0 where
  pub transitions : take (transition_entries a) x.transitions ≡ take (transition_entries b) y.transitions
  pub states : take (state_entries a) x.states ≡ take (state_entries b) y.states

abbrev pub SameScores : Type 0
SameScores =
    (a b : Given) → Agree (scoring_input_of a) (scoring_input_of b) →
    (before other : Buffers) (x y : Outcome) → Promised a before x → Promised b other y →
    said_of x.answer ≡ accepted tt → said_of y.answer ≡ accepted tt →
    SameScoreFronts a b x y
