-- What the check of a model and the setting of weights give to C: the answers of the crates feature_gen and set_weights, as numbers. Assumes nothing.
use Rattle.std.specs.Prelude.{◌≡◌, List, Float}
use Rattle.feature_gen.specs.CheckModel as model
use Rattle.set_weights.specs.SetWeights as weights
use Rattle.set_weights.specs.SetWeights.{Setting}
use Rattle.answers.specs.declared.checks.Refused.{Refused}
use Rattle.answers.specs.Numbers.{numbers}

-- the promise of a checked model, of which nothing is changed
pub record Checks (given : model.Given) (answer : Refused) : Type 0 where
  pub answers : answer ≡ numbers (model.answer_to given)

-- the answer, and what the table of weights holds afterwards
pub record Outcome : Type 0 where
  pub answer : Refused
  pub weights : List Float

-- the promise of weights that are set
pub record Sets (given : Setting) (before : List Float) (outcome : Outcome) : Type 0 where
  pub answers : outcome.answer ≡ numbers (weights.answer_to given before)
  pub weights : outcome.weights ≡ weights.weights_after given before
