-- What the parts of a training's code are held to: its beginning, its averaging and its end. Assumes nothing.
use Rattle.std.specs.Prelude.{◌≡◌, Bool, false, List, ℕ, ◌≤◌, replicate, Float}
use Rattle.binary64.specs.Numbers.{nought}
use Rattle.fronts.specs.Finite.{all_finite_of}
use Rattle.training.specs.Counter.{most_visits}
use Rattle.training.specs.Rules.{Rule, Learned, beside_at_first, averaged_by}
use Rattle.training.specs.Epochs.{Run, is_refused, up_to}
use Rattle.begin_and_end.specs.declared.Ran.{Ran}

-- "Weights start at 0", "Order starts 0 to N−1"
pub record Begun (rule : Rule) (features instances : ℕ) (order : List ℕ) (weights beside : List Float) : Type 0 where
  pub order_is : order ≡ up_to instances
  pub weights_are : weights ≡ replicate features nought
  pub beside_is : beside ≡ replicate features (beside_at_first rule)

-- the averaged weights, and whether they are finite
pub record AveragedAs (rule : Rule) (features : ℕ) (counter : Float) (before : Learned) (after : List Float) (all : Bool) : Type 0 where
  pub weights : after ≡ averaged_by rule features counter before
  pub finite : all ≡ all_finite_of after features

-- "After an accepted call work buffers' needed fronts are zero", and "After 8 and 9" too
pub record Swept (features instances : ℕ) (order : List ℕ) (beside truly predicted : List Float) : Type 0 where
  pub order_is : order ≡ replicate instances 0
  pub beside_is : beside ≡ replicate features nought
  pub truly_is : truly ≡ replicate features nought
  pub predicted_is : predicted ≡ replicate features nought

-- the last progress is the definition's; the epochs run and the tables are too, unless a visit was refused
pub record Finished (made : Ran) (weights beside : List Float) (meant : Run) : Type 0 where
  pub progress : made.progress ≡ meant.state.progress
  pub epochs : is_refused meant.state.progress.visit ≡ false → made.epochs ≡ meant.epochs
  pub learned : is_refused meant.state.progress.visit ≡ false → ◌≡◌ {A = Learned} (record { weights = weights; beside = beside }) meant.state.learned
  pub visits : made.progress.visits ≤ most_visits
