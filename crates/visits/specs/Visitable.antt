-- What a visit asks of the tables and of the training's progress, and what it hands to the update. Assumes nothing.
use Rattle.std.specs.Prelude.{◌≡◌, List, ℕ, ◌+◌, ◌≤◌, ◌<◌, ◌^◌, length, Float}
use Rattle.binary64.specs.Numbers.{whole}
use Rattle.lines.specs.Tables.{Model, Words}
use Rattle.lines.specs.Counted.{counts_of}
use Rattle.lines.specs.Data.{Data}
use Rattle.feature_gen.specs.Sound.{SoundModel}
use Rattle.training.specs.declared.Progress.{Progress}
use Rattle.training.specs.Rules.{Mistake}
use Rattle.training_check.specs.Sound.{SoundData}
use Rattle.judging.specs.declared.Prediction.{Prediction}
use Rattle.prediction.specs.declared.Sizes.{Sizes}
use Rattle.prediction.specs.Tables.{SoundInstance}
use Rattle.updates.specs.Updating.{mistake_with, Exact}

-- the visit of instance i: its tables, and room for one visit more
pub record Visitable (sizes : Sizes) (m : Model) (d : Data) (i : ℕ) (s : Progress) (weights beside truly predicted : List Float) : Type 0 where
  pub model : SoundModel m
  pub corpus : SoundData sizes.labels d
  pub exact : Exact sizes.features weights beside truly predicted
  pub among : i < sizes.instances
  pub visits : s.visits < 2 ^ 53
  pub updates : s.updates ≤ s.visits

-- and where labels differ: the words of the instance, its predicted path, and no more wrong labels than a line may have words
pub record Correctable (sizes : Sizes) (m : Model) (w : Words) (first words : ℕ) (references path : List ℕ) (p : Prediction) (s : Progress) (weights beside truly predicted : List Float) : Type 0 where
  pub model : SoundModel m
  pub line : SoundInstance sizes.labels w first words references
  pub exact : Exact sizes.features weights beside truly predicted
  pub path_long : length path ≡ words
  pub few : p.wrong ≤ 128
  pub visits : s.visits < 2 ^ 53
  pub updates : s.updates ≤ s.visits

-- what the update is told of the instance
abbrev pub mistake_of : Model → Words → (first words : ℕ) (references path : List ℕ) → Prediction → Float → ℕ → Mistake
mistake_of m w first words references path p weight visits =
    mistake_with words p (counts_of m w first words references) (counts_of m w first words path) weight (whole (visits + 1))
