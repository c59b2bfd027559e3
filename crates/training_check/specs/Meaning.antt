-- What a trainer refuses under 1 to 7, in plain terms: each number exactly when document 01 gives it, and with which place. The proofs are in proofs/Meant.
use Rattle.std.specs.Prelude.{◌≡◌, List, [], ◌∷◌, ◌↔◌, ℕ, Ok, Err}
use Rattle.refusals.specs.declared.Refusal.{Refusal}
use Rattle.refusals.specs.Refusals.{refused_at}
use Rattle.score_tables.specs.Sound.{LabelsIn}
use Rattle.refusal_rows.specs.Limits.{Fitting}
use Rattle.refusal_rows.specs.Tests.{AllGood, FirstBadOf}
use Rattle.refusal_rows.specs.Given.{AtZero, OneOf}
use Rattle.parameters.specs.Parameters.{Parameter, AllFit, FirstUnfit}
use Rattle.training_check.specs.Rows.{Input, input_counts, input_rooms, input_starts, length_tests, input_ids, input_numbers, training_checked}
use Rattle.training_check.specs.Sound.{SoundInput}

-- what is tested and found fine before 3, and so on to 7
module _ (g : Input) where
  abbrev pub Before3 : Type 0
  Before3 = LabelsIn g.model.labels × Fitting (input_counts g) (input_rooms g)

  abbrev pub Before4 : Type 0
  Before4 = LabelsIn g.model.labels × (Fitting (input_counts g) (input_rooms g) × AllGood (input_starts g))

  abbrev pub Before5 : Type 0
  Before5 = LabelsIn g.model.labels × (Fitting (input_counts g) (input_rooms g) × (AllGood (input_starts g) × AllGood (length_tests g.corpus)))

  abbrev pub Before6 : Type 0
  Before6 = LabelsIn g.model.labels × (Fitting (input_counts g) (input_rooms g) × (AllGood (input_starts g) × (AllGood (length_tests g.corpus) × AllGood (input_ids g))))

  abbrev pub Before7 : Type 0
  Before7 = LabelsIn g.model.labels × (Fitting (input_counts g) (input_rooms g) × (AllGood (input_starts g) × (AllGood (length_tests g.corpus) × (AllGood (input_ids g) × AllGood (input_numbers g.corpus)))))

  abbrev pub AllIsFine : List Parameter → Type 0
  AllIsFine parameters = LabelsIn g.model.labels × (Fitting (input_counts g) (input_rooms g) × (AllGood (input_starts g) × (AllGood (length_tests g.corpus) × (AllGood (input_ids g) × (AllGood (input_numbers g.corpus) × AllFit parameters)))))

pub record Meaning (g : Input) (parameters : List Parameter) : Type 0 where
  pub one : (place : ℕ) → training_checked g parameters ≡ refused_at 1 place ↔ AtZero (LabelsIn g.model.labels) place
  pub two : (place : ℕ) → training_checked g parameters ≡ refused_at 2 place ↔ LabelsIn g.model.labels × AtZero (Fitting (input_counts g) (input_rooms g)) place
  pub three : (place : ℕ) → training_checked g parameters ≡ refused_at 3 place ↔ Before3 g × FirstBadOf (input_starts g) place
  pub four : (place : ℕ) → training_checked g parameters ≡ refused_at 4 place ↔ Before4 g × FirstBadOf (length_tests g.corpus) place
  pub five : (place : ℕ) → training_checked g parameters ≡ refused_at 5 place ↔ Before5 g × FirstBadOf (input_ids g) place
  pub six : (place : ℕ) → training_checked g parameters ≡ refused_at 6 place ↔ Before6 g × FirstBadOf (input_numbers g.corpus) place
  pub seven : (place : ℕ) → training_checked g parameters ≡ refused_at 7 place ↔ Before7 g × FirstUnfit parameters place
  pub only : (why : Refusal) → training_checked g parameters ≡ Err why → OneOf (1 ∷ 2 ∷ 3 ∷ 4 ∷ 5 ∷ 6 ∷ 7 ∷ []) why.number
  pub accepted : training_checked g parameters ≡ Ok tt ↔ AllIsFine g parameters
  pub sound : training_checked g parameters ≡ Ok tt → SoundInput g × AllFit parameters

abbrev pub TrainingMeans : Type 0
TrainingMeans = (g : Input) (parameters : List Parameter) → Meaning g parameters
