-- When the writer gives each number, and with which place, in plain terms; of the check, and of whatever satisfies the promise. The proofs are in proofs/Meant.
use Rattle.std.specs.Prelude.{◌≡◌, [], ◌∷◌, ◌↔◌, ◌⊎◌, ℕ, length, Ok}
use Rattle.refusals.specs.Refusals.{refused_at, numbered}
use Rattle.refusals.specs.Said.{accepted, refused}
use Rattle.score_tables.specs.Sound.{LabelsIn}
use Rattle.refusal_rows.specs.Limits.{AllWithin, Fitting}
use Rattle.refusal_rows.specs.Tests.{AllGood, FirstBadOf}
use Rattle.refusal_rows.specs.Given.{AtZero, OneOf}
use Rattle.layout.specs.Layout.{Bytes}
use Rattle.write_check.specs.Carry.{AllCarried, FirstUncarried}
use Rattle.write_check.specs.Rows.{Unchecked, written_counts, written_rooms, written_starts, written_lengths, written_ids, text_room, written_carries, write_checked}
use Rattle.write_text.specs.Promise.{Outcome, said, Promised}

-- everything before the text's room: 1 to 5 found nothing
abbrev pub ReadFine : Unchecked → Type 0
ReadFine g = LabelsIn g.labels × (Fitting (written_counts g) (written_rooms g) × (AllGood (written_starts g) × (AllGood (written_lengths g) × AllGood (written_ids g))))

-- `Refuses number place` says how a refusal is answered, `Accepts` how none is; before each number stands what was tested and found fine. 2 is given at two places:
-- for counts and what is read, and for the text's room
pub record Meaning (Refuses : ℕ → ℕ → Type 0) (Accepts : Type 0) (g : Unchecked) (have : ℕ) : Type 0 where
  pub one : (place : ℕ) → Refuses 1 place ↔ AtZero (LabelsIn g.labels) place
  pub two : (place : ℕ) → Refuses 2 place ↔ (LabelsIn g.labels × AtZero (Fitting (written_counts g) (written_rooms g)) place) ⊎ (ReadFine g × AtZero (AllWithin (text_room g have)) place)
  pub three : (place : ℕ) → Refuses 3 place ↔ (LabelsIn g.labels × Fitting (written_counts g) (written_rooms g)) × FirstBadOf (written_starts g) place
  pub four : (place : ℕ) → Refuses 4 place ↔ (LabelsIn g.labels × (Fitting (written_counts g) (written_rooms g) × AllGood (written_starts g))) × FirstBadOf (written_lengths g) place
  pub five : (place : ℕ) → Refuses 5 place ↔ (LabelsIn g.labels × (Fitting (written_counts g) (written_rooms g) × (AllGood (written_starts g) × AllGood (written_lengths g)))) × FirstBadOf (written_ids g) place
  pub eleven : (place : ℕ) → Refuses 11 place ↔ ReadFine g × (AllWithin (text_room g have) × FirstUncarried (written_carries g) place)
  pub only : (number place : ℕ) → Refuses number place → OneOf (1 ∷ 2 ∷ 3 ∷ 4 ∷ 5 ∷ 2 ∷ 11 ∷ []) number
  pub accepted : Accepts ↔ ReadFine g × (AllWithin (text_room g have) × AllCarried (written_carries g))

abbrev pub WritingMeans : Type 0
WritingMeans =
    (g : Unchecked) (have : ℕ) → Meaning (λ number place. write_checked g have ≡ refused_at number place) (write_checked g have ≡ Ok tt) g have

-- of the call: a length exactly when no number is given
abbrev pub AnswersMean : Type 0
AnswersMean =
    (given : Unchecked) (before : Bytes) (outcome : Outcome) → Promised given before outcome →
    Meaning (λ number place. said outcome.answer ≡ refused (numbered number place)) ((n : ℕ) × (said outcome.answer ≡ accepted n)) given (length before)
