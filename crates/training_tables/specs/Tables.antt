-- What is asked of lent tables, and what a dense pass over them leaves. Assumes nothing.
use Rattle.std.specs.Prelude.{◌≡◌, Bool, ◌&&◌, List, ℕ, ◌≤◌, Float}
use Rattle.lines.specs.Passes.{through}
use Rattle.fronts.specs.Finite.{all_finite_of}
use Rattle.training.specs.Rules.{Rule, Learned, Mistake, Update, updated_by, averaged_at}
use Rattle.training_tables.specs.declared.Outcome.{Outcome}

-- "A lent buffer may be longer than needed": each of two tables has at least the features
pub record Both (features one other : ℕ) : Type 0 where
  pub one_long : features ≤ one
  pub other_long : features ≤ other

-- so have the counts too
pub record Held (features truly predicted weights beside : ℕ) : Type 0 where
  pub truly_long : features ≤ truly
  pub predicted_long : features ≤ predicted
  pub weights_long : features ≤ weights
  pub beside_long : features ≤ beside

-- each feature's weight averaged, and whether the averaged weights are finite
pub record Averaged (features : ℕ) (counter : Float) (sums before after : List Float) (all : Bool) : Type 0 where
  pub weights : after ≡ through (averaged_at counter sums) 0 features before
  pub finite : all ≡ all_finite_of after features

-- the two tables after a step at each feature, and whether both are finite then
pub record Moved (features : ℕ) (step : ℕ → Learned → Learned) (before after : Learned) (all : Bool) : Type 0 where
  pub learned : after ≡ through step 0 features before
  pub finite : all ≡ (all_finite_of after.weights features && all_finite_of after.beside features)

-- an update by a trainer's rule: the two tables and the loss as the definition has them, and whether both tables are finite then
pub record Updated (rule : Rule) (features : ℕ) (k : Mistake) (before after : Learned) (outcome : Outcome) : Type 0 where
  pub update : ◌≡◌ {A = Update} (record { learned = after; loss = outcome.loss }) (updated_by rule features k before)
  pub finite : outcome.finite ≡ (all_finite_of after.weights features && all_finite_of after.beside features)
