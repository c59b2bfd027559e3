-- What the training text gives to C: the answers of the crates read_text and write_text, as numbers. Assumes nothing.
use Rattle.refusals.specs.declared.Refusal.{Refusal}
use Rattle.read_text.specs.declared.TextSizes.{TextSizes}
use Rattle.std.specs.Prelude.{◌≡◌, Result}
use Rattle.layout.specs.Layout.{Bytes}
use Rattle.write_check.specs.Rows.{Unchecked}
use Rattle.write_text.specs.Promise.{answer_to, text_after}
use Rattle.read_text.specs.Promise.{Buffers, said, Promised}
use Rattle.read_text.specs.Sizes.{SizesPromised}
use Rattle.text_exports.specs.declared.ReadText.{ReadText}
use Rattle.text_exports.specs.declared.WrittenText.{WrittenText}
use Rattle.text_exports.specs.Numbers.{read_numbers, written_numbers}

-- the answer, and what the twelve lent tables hold afterwards
pub record ReadOutcome : Type 0 where
  pub answer : ReadText
  pub after : Buffers

-- the promise of reading: an answer that keeps the promise of read_text, as numbers
pub record Reads (text : Bytes) (before : Buffers) (outcome : ReadOutcome) : Type 0 where
  pub reading : Result TextSizes Refusal
  pub answers : outcome.answer ≡ read_numbers (said reading)
  pub promised : Promised text before (record { answer = reading; after = outcome.after })

-- the promise of the sizes, likewise
pub record Sizes (text : Bytes) (answer : ReadText) : Type 0 where
  pub reading : Result TextSizes Refusal
  pub answers : answer ≡ read_numbers (said reading)
  pub promised : SizesPromised text reading

-- the answer, and what the lent text holds afterwards
pub record WriteOutcome : Type 0 where
  pub answer : WrittenText
  pub text : Bytes

-- the promise of writing
pub record Writes (given : Unchecked) (before : Bytes) (outcome : WriteOutcome) : Type 0 where
  pub answers : outcome.answer ≡ written_numbers (answer_to given before)
  pub text : outcome.text ≡ text_after given before
