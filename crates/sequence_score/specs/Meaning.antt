-- What a path score answers, in plain terms: each number exactly when document 01 gives it, and with which place. The proofs are in proofs/Meant; for C in decoding_exports.
use Rattle.std.specs.Prelude.{◌≡◌, [], ◌∷◌, ◌↔◌, ℕ, ◌≤◌, length, Float, Ok, Result}
use Rattle.refusals.specs.Refusals.{numbered, refused_at}
use Rattle.refusals.specs.Said.{accepted, refused}
use Rattle.refusals.specs.Meaning.{FirstBad}
use Rattle.best_path.specs.Scores.{label_at}
use Rattle.score_tables.specs.Sound.{LabelsIn, WordsIn, ScoresRoom}
use Rattle.score_tables.specs.Meaning.{SixAt}
use Rattle.refusal_rows.specs.Given.{AtZero, OneOf}
use Rattle.refusals.specs.declared.Refusal.{Refusal}
use Rattle.sequence_score.specs.Sound.{LabelsBelow, SoundPath}
use Rattle.sequence_score.specs.Promise.{Given, said, checked_of, Promised}

-- T within its bound, and the path no longer
abbrev pub LengthsIn : Given → Type 0
LengthsIn given = WordsIn given.words × (given.count ≤ given.words)

-- each table has its entries, and the path its labels
abbrev pub AllRoom : Given → Type 0
AllRoom given = ScoresRoom given.labels given.words given.transitions given.states × (given.count ≤ length given.path)

-- "label at or above L", at the first such word
abbrev pub FiveAt : Given → ℕ → Type 0
FiveAt given place = FirstBad (λ word. given.labels ≤ label_at given.path word) given.count place

-- `Refuses number place` says how a refusal is answered, `Accepts` how none is; before each number stands what was tested and found fine
pub record Meaning (Refuses : ℕ → ℕ → Type 0) (Accepts : Type 0) (given : Given) : Type 0 where
  pub one : (place : ℕ) → Refuses 1 place ↔ AtZero (LabelsIn given.labels) place
  pub four : (place : ℕ) → Refuses 4 place ↔ LabelsIn given.labels × AtZero (LengthsIn given) place
  pub two : (place : ℕ) → Refuses 2 place ↔ (LabelsIn given.labels × LengthsIn given) × AtZero (AllRoom given) place
  pub five : (place : ℕ) → Refuses 5 place ↔ (LabelsIn given.labels × (LengthsIn given × AllRoom given)) × FiveAt given place
  pub six : (place : ℕ) →
      Refuses 6 place
      ↔ (LabelsIn given.labels × (LengthsIn given × (AllRoom given × LabelsBelow given.labels given.path given.count)))
      × SixAt given.labels given.words given.transitions given.states place
  pub only : (number place : ℕ) → Refuses number place → OneOf (1 ∷ 4 ∷ 2 ∷ 5 ∷ 6 ∷ []) number
  pub accepted : Accepts ↔ SoundPath given.labels given.words given.transitions given.states given.path given.count

-- of the check
abbrev pub PathsMean : Type 0
PathsMean = (given : Given) → Meaning (λ number place. checked_of given ≡ refused_at number place) (checked_of given ≡ Ok tt) given

-- of whatever satisfies the promise: a score exactly when no number is given
abbrev pub AnswersMean : Type 0
AnswersMean =
    (given : Given) (outcome : Result Float Refusal) → Promised given outcome →
    Meaning (λ number place. said outcome ≡ refused (numbered number place)) ((score : Float) × (said outcome ≡ accepted score)) given
