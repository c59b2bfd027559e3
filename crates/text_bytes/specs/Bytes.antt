-- What is refused of a text's bytes before anything is counted. Assumes nothing.
use Rattle.std.specs.Prelude.{◌≡◌, ℕ, ◌≤◌, length, Ok, Err, Result}
use Rattle.refusals.specs.declared.Refusal.{Refusal}
use Rattle.refusals.specs.Refusals.{Checked, numbered, refused_at, or_next_of}
use Rattle.layout.specs.Layout.{Bytes, WellFormed}
use Rattle.layout.specs.Scan.{look, PlaceOf}
use Rattle.text_check.specs.Rows.{too_long_of}

-- 11 where the look found a place
abbrev pub malformed_at : Result (Unit {0}) ℕ → Checked
malformed_at (Ok _) = Ok tt
malformed_at (Err place) = refused_at 11 place

-- "11 .. tested before 1"; a text that is too long "right after 11 and before the other counts"
abbrev pub bytes_checked : Bytes → Checked
bytes_checked text = or_next_of (malformed_at (look text)) (too_long_of (length text))

-- ---- in plain terms; proved in proofs/Told

-- a well-formed text that is not too long
pub record Readable (text : Bytes) : Type 0 where
  pub formed : WellFormed text
  pub small : length text ≤ 4294967295

-- 11 of a malformed text, with its place; of a well-formed one 2 of its length
pub record BytesRefused (text : Bytes) (why : Refusal) : Type 0 where
  pub malformed : (place : ℕ) → PlaceOf text place → why ≡ numbered 11 place
  pub whole : WellFormed text → too_long_of (length text) ≡ Err why

pub record BytesMean (text : Bytes) : Type 0 where
  pub accepted : bytes_checked text ≡ Ok tt → Readable text
  pub refused : (why : Refusal) → bytes_checked text ≡ Err why → BytesRefused text why
