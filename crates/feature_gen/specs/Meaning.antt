-- What the check of a model refuses, in plain terms: each number exactly when document 01 gives it, and with which place; of the check, and of whatever satisfies the promise. The proofs are in proofs/Meant; for C in model_exports.
use Rattle.std.specs.Prelude.{◌≡◌, List, [], ◌∷◌, ◌↔◌, ℕ, Float, Ok}
use Rattle.refusals.specs.Refusals.{Checked, refused_at}
use Rattle.score_tables.specs.Sound.{LabelsIn}
use Rattle.refusal_rows.specs.Limits.{Fitting}
use Rattle.refusal_rows.specs.Tests.{AllGood, FirstBadOf}
use Rattle.refusal_rows.specs.Given.{AtZero, OneOf}
use Rattle.lines.specs.Tables.{Model}
use Rattle.feature_gen.specs.Rows.{model_counts, weighted_rooms, start_tests, id_tests, weight_tests, model_checked}
use Rattle.feature_gen.specs.CheckModel.{Given, ModelChecked}
use Rattle.feature_gen.specs.Sound.{Weighted}

-- every count is within its bound, and every table has room
abbrev pub Fits : Model → List Float → Type 0
Fits m weights = Fitting (model_counts m) (weighted_rooms m weights)

-- `Refuses number place` says how a refusal is answered, `Accepts` how none is; before each number stands what was tested and found fine
pub record Meaning (Refuses : ℕ → ℕ → Type 0) (Accepts : Type 0) (m : Model) (weights : List Float) : Type 0 where
  pub one : (place : ℕ) → Refuses 1 place ↔ AtZero (LabelsIn m.labels) place
  pub two : (place : ℕ) → Refuses 2 place ↔ LabelsIn m.labels × AtZero (Fits m weights) place
  pub three : (place : ℕ) → Refuses 3 place ↔ (LabelsIn m.labels × Fits m weights) × FirstBadOf (start_tests m) place
  pub five : (place : ℕ) → Refuses 5 place ↔ (LabelsIn m.labels × (Fits m weights × AllGood (start_tests m))) × FirstBadOf (id_tests m) place
  pub six : (place : ℕ) → Refuses 6 place ↔ (LabelsIn m.labels × (Fits m weights × (AllGood (start_tests m) × AllGood (id_tests m)))) × FirstBadOf (weight_tests m weights) place
  pub only : (number place : ℕ) → Refuses number place → OneOf (1 ∷ 2 ∷ 3 ∷ 5 ∷ 6 ∷ []) number
  pub accepted : Accepts ↔ LabelsIn m.labels × (Fits m weights × (AllGood (start_tests m) × (AllGood (id_tests m) × AllGood (weight_tests m weights))))
  pub sound : Accepts → Weighted m weights

abbrev pub ModelsMean : Type 0
ModelsMean = (m : Model) (weights : List Float) → Meaning (λ number place. model_checked m weights ≡ refused_at number place) (model_checked m weights ≡ Ok tt) m weights

-- of whatever satisfies the promise of `check_model`
abbrev pub AnswersMean : Type 0
AnswersMean = (given : Given) (outcome : Checked) → ModelChecked given outcome →
    Meaning (λ number place. outcome ≡ refused_at number place) (outcome ≡ Ok tt) given.model given.weights
