-- What scoring a line gives to C: the answer of the crate compute_scores, as numbers. Assumes nothing.
use Rattle.std.specs.Prelude.{◌≡◌, List, Float}
use Rattle.compute_scores.specs.Promise.{Given, Buffers, answer_to, states_after, transitions_after}
use Rattle.answers.specs.declared.checks.Refused.{Refused}
use Rattle.answers.specs.Numbers.{numbers}

-- the answer, and what the lent buffers hold afterwards
pub record Outcome : Type 0 where
  pub answer : Refused
  pub transitions : List Float
  pub states : List Float

-- the promise of a scored line
pub record ScoresLine (given : Given) (before : Buffers) (outcome : Outcome) : Type 0 where
  pub answers : outcome.answer ≡ numbers (answer_to given before)
  pub transitions : outcome.transitions ≡ transitions_after given before
  pub states : outcome.states ≡ states_after given before
