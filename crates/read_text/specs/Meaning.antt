-- When each number is given of a text, and when it is accepted, both ways, in plain terms: what the promise comes to. The proof is in proofs/Meant.
use Rattle.std.specs.Prelude.{◌≡◌, List, [], ◌∷◌, ◌↔◌, ℕ, length, Result}
use Rattle.refusals.specs.declared.Refusal.{Refusal}
use Rattle.refusals.specs.Refusals.{numbered}
use Rattle.refusals.specs.Said.{accepted, refused}
use Rattle.refusals.specs.Meaning.{FirstBad}
use Rattle.refusal_rows.specs.Tests.{AllGood}
use Rattle.refusal_rows.specs.Given.{AtZero, OneOf}
use Rattle.layout.specs.Layout.{Bytes, Word, WellFormed, sequences}
use Rattle.layout.specs.Scan.{PlaceOf}
use Rattle.text_tables.specs.Tally.{AboveAt}
use Rattle.text_check.specs.Rows.{sequence_tests}
use Rattle.text_check.specs.Meaning.{SizesFit, TextFits}
use Rattle.read_text.specs.declared.TextSizes.{TextSizes}
use Rattle.read_text.specs.Promise.{Buffers, Outcome, said, sizes_for, lengths_of, Promised}
use Rattle.read_text.specs.Sizes.{SizesPromised}

-- the sequences of a well-formed text
abbrev pub sequences_of : {text : Bytes} → WellFormed text → List (List Word)
sequences_of h = sequences h.lines

-- "Order: 11, 2, .., 4": 11 exactly where the text is malformed, with its place; the others only of a well-formed text, whose sequences fit or not
pub record TextAnswerMeans (text : Bytes) (Fits : List (List Word) → Type 0) (answer : Result TextSizes Refusal) : Type 0 where
  pub eleven : (place : ℕ) → said answer ≡ refused (numbered 11 place) ↔ PlaceOf text place
  pub two : (place : ℕ) → said answer ≡ refused (numbered 2 place) ↔ ((h : WellFormed text) × AtZero (Fits (sequences_of h)) place)
  pub four : (place : ℕ) → said answer ≡ refused (numbered 4 place) ↔ ((h : WellFormed text) × Fits (sequences_of h) × FirstBad (AboveAt (sequences_of h)) (length (sequences_of h)) place)
  pub only : (why : Refusal) → said answer ≡ refused why → OneOf (2 ∷ 4 ∷ 11 ∷ []) why.number
  -- "accepted exactly where there are sound lines with `text_of lines ≡ text` and the bounds hold"
  pub taken : (sizes : TextSizes) → said answer ≡ accepted sizes
      ↔ ((h : WellFormed text) × Fits (sequences_of h) × AllGood (sequence_tests (sequences_of h)) × (sizes ≡ sizes_for (sequences_of h)))

-- of reading: the counts are within their bounds, and the tables have room
abbrev pub PromiseMeans : Type 0
PromiseMeans = (text : Bytes) (before : Buffers) (outcome : Outcome) → Promised text before outcome
    → TextAnswerMeans text (λ ss. TextFits (length text) ss (lengths_of before)) outcome.answer

-- of the sizes: the counts are
abbrev pub SizesMean : Type 0
SizesMean = (text : Bytes) (answer : Result TextSizes Refusal) → SizesPromised text answer → TextAnswerMeans text (SizesFit (length text)) answer
