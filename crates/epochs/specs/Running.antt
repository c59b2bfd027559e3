-- What a run of epochs relies on, and where it begins. Assumes nothing.
use Rattle.std.specs.Prelude.{List, ℕ, ◌≤◌, Float}
use Rattle.binary64.specs.Numbers.{nought}
use Rattle.refusals.specs.Bounds.{the_epochs, most}
use Rattle.lines.specs.Tables.{Model}
use Rattle.lines.specs.Data.{Data}
use Rattle.feature_gen.specs.Sound.{SoundModel}
use Rattle.training.specs.declared.Progress.{Progress}
use Rattle.training.specs.declared.Visit.TheVariants.{Unchanged}
use Rattle.training.specs.Orders.{OrderOf}
use Rattle.training_check.specs.Sound.{SoundData}
use Rattle.prediction.specs.declared.Sizes.{Sizes}
use Rattle.updates.specs.Updating.{Exact}

-- before the first visit
abbrev pub first_step : Progress
first_step = record { visit = Unchanged; visits = 0; updates = 0; loss = nought }

-- the tables, the number of epochs, and an order of the instances
pub record Runnable (sizes : Sizes) (m : Model) (d : Data) (allowed : ℕ) (order : List ℕ) (weights beside truly predicted : List Float) : Type 0 where
  pub model : SoundModel m
  pub corpus : SoundData sizes.labels d
  pub exact : Exact sizes.features weights beside truly predicted
  pub few : allowed ≤ most the_epochs
  pub ordered : OrderOf sizes.instances order
