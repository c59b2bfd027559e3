-- What a training relies on. Assumes nothing.
use Rattle.std.specs.Prelude.{◌≡◌, List, ℕ, ◌≤◌, length, Float}
use Rattle.refusals.specs.Bounds.{the_epochs, most}
use Rattle.lines.specs.Tables.{Model}
use Rattle.lines.specs.Data.{Data}
use Rattle.feature_gen.specs.Sound.{SoundModel}
use Rattle.training_check.specs.Sound.{SoundData}
use Rattle.prediction.specs.declared.Sizes.{Sizes}
use Rattle.updates.specs.Updating.{Exact}

-- the tables, the number of epochs, and an order with a place for each instance
pub record Trainable (sizes : Sizes) (m : Model) (d : Data) (allowed : ℕ) (order : List ℕ) (weights beside truly predicted : List Float) : Type 0 where
  pub model : SoundModel m
  pub corpus : SoundData sizes.labels d
  pub exact : Exact sizes.features weights beside truly predicted
  pub few : allowed ≤ most the_epochs
  pub order_long : length order ≡ sizes.instances
