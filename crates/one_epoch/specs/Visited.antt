-- What the code of an epoch is held to, beside the definition. Assumes nothing.
use Rattle.std.specs.Prelude.{List, ℕ, ◌+◌, ◌≤◌, ◌<◌, ◌^◌, length, get_or, Float}
use Rattle.lines.specs.Tables.{Model}
use Rattle.lines.specs.Data.{Data}
use Rattle.feature_gen.specs.Sound.{SoundModel}
use Rattle.training.specs.declared.Progress.{Progress}
use Rattle.training_check.specs.Sound.{SoundData}
use Rattle.prediction.specs.declared.Sizes.{Sizes}
use Rattle.updates.specs.Updating.{Exact}

-- what an epoch relies on: the tables, an order that leads to instances, and counters that have room for its visits
pub record Ahead (sizes : Sizes) (m : Model) (d : Data) (order : List ℕ) (s : Progress) (weights beside truly predicted : List Float) : Type 0 where
  pub model : SoundModel m
  pub corpus : SoundData sizes.labels d
  pub exact : Exact sizes.features weights beside truly predicted
  pub long : sizes.instances ≤ length order
  pub among : (j : ℕ) → j < sizes.instances → get_or order j 0 < sizes.instances
  pub room : s.visits + sizes.instances ≤ 2 ^ 53
  pub updates : s.updates ≤ s.visits

-- the counters rise by so many visits at most
pub record CountedIn (instances : ℕ) (before after : Progress) : Type 0 where
  pub visits : after.visits ≤ before.visits + instances
  pub updates : after.updates ≤ after.visits
