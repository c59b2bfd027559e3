-- What counting the features of a line gives to C: the answer of the crate extract_features, as numbers. Assumes nothing.
use Rattle.std.specs.Prelude.{◌≡◌, List, Float}
use Rattle.extract_features.specs.Promise.{Given, answer_to, amounts_after}
use Rattle.answers.specs.declared.checks.Refused.{Refused}
use Rattle.answers.specs.Numbers.{numbers}

-- the answer, and what the buffer for the counts holds afterwards
pub record Outcome : Type 0 where
  pub answer : Refused
  pub counts : List Float

-- the promise of a counted line
pub record Counted (given : Given) (before : List Float) (outcome : Outcome) : Type 0 where
  pub answers : outcome.answer ≡ numbers (answer_to given before)
  pub counts : outcome.counts ≡ amounts_after given before
