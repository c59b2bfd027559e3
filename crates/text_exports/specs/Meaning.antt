-- What C is told of a training text, in plain terms, of whatever satisfies the promise: each number exactly when it is given, 0 exactly when none is. The proofs are in proofs/Meant.
use Rattle.std.specs.Prelude.{◌≡◌, List, [], ◌∷◌, ◌↔◌, ℕ, length}
use Rattle.refusals.specs.Said.{accepted}
use Rattle.refusals.specs.Meaning.{FirstBad}
use Rattle.refusal_rows.specs.Tests.{AllGood}
use Rattle.refusal_rows.specs.Given.{AtZero, OneOf}
use Rattle.layout.specs.Layout.{Bytes, Word, WellFormed}
use Rattle.layout.specs.Scan.{PlaceOf}
use Rattle.text_tables.specs.Tally.{AboveAt}
use Rattle.text_check.specs.Rows.{sequence_tests}
use Rattle.text_check.specs.Meaning.{SizesFit, TextFits}
use Rattle.read_text.specs.Promise.{Buffers, sizes_for, lengths_of}
use Rattle.read_text.specs.Meaning.{sequences_of}
use Rattle.write_check.specs.Rows.{Unchecked}
use Rattle.write_text.specs.Meaning.{Meaning}
use Rattle.answers.specs.Given.{Gives}
use Rattle.text_exports.specs.declared.ReadText.{ReadText}
use Rattle.text_exports.specs.Numbers.{read_numbers}
use Rattle.text_exports.specs.Promise.{ReadOutcome, Reads, Sizes, WriteOutcome, Writes}

-- "Order: 11, 2, .., 4": 11 exactly where the text is malformed, with its place; the others only of a well-formed text, whose sequences fit or not; 0 exactly
-- where none of them is given, and then the sizes are told
pub record ReadingTells (text : Bytes) (Fits : List (List Word) → Type 0) (answer : ReadText) : Type 0 where
  pub eleven : (place : ℕ) → Gives answer.number answer.place 11 place ↔ PlaceOf text place
  pub two : (place : ℕ) → Gives answer.number answer.place 2 place ↔ ((h : WellFormed text) × AtZero (Fits (sequences_of h)) place)
  pub four : (place : ℕ) → Gives answer.number answer.place 4 place
      ↔ ((h : WellFormed text) × Fits (sequences_of h) × FirstBad (AboveAt (sequences_of h)) (length (sequences_of h)) place)
  pub only : (number place : ℕ) → Gives answer.number answer.place number place → OneOf (2 ∷ 4 ∷ 11 ∷ []) number
  pub taken : answer.number ≡ 0
      ↔ ((h : WellFormed text) × Fits (sequences_of h) × AllGood (sequence_tests (sequences_of h)) × (answer ≡ read_numbers (accepted (sizes_for (sequences_of h)))))

-- of reading: the counts are within their bounds, and the tables have room
abbrev pub ReadsMean : Type 0
ReadsMean = (text : Bytes) (before : Buffers) (outcome : ReadOutcome) → Reads text before outcome
    → ReadingTells text (λ ss. TextFits (length text) ss (lengths_of before)) outcome.answer

-- of the sizes: the counts are
abbrev pub SizesMean : Type 0
SizesMean = (text : Bytes) (answer : ReadText) → Sizes text answer → ReadingTells text (SizesFit (length text)) answer

abbrev pub WritesMean : Type 0
WritesMean =
    (given : Unchecked) (before : Bytes) (outcome : WriteOutcome) → Writes given before outcome →
    Meaning (Gives outcome.answer.number outcome.answer.place) (outcome.answer.number ≡ 0) given (length before)
