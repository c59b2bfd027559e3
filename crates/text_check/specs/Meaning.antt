-- What the reader's checks refuse, in plain terms: each number exactly when it is given, and with which place. The proofs are in proofs/Meant.
use Rattle.std.specs.Prelude.{◌≡◌, List, [], ◌∷◌, ◌↔◌, ℕ, ◌≤◌, length, Ok, Err}
use Rattle.refusals.specs.declared.Refusal.{Refusal}
use Rattle.refusals.specs.Refusals.{Checked, refused_at}
use Rattle.refusals.specs.Meaning.{FirstBad}
use Rattle.refusal_rows.specs.Limits.{AllWithin, Fitting}
use Rattle.refusal_rows.specs.Tests.{AllGood, FirstBadOf}
use Rattle.refusal_rows.specs.Given.{AtZero, OneOf}
use Rattle.layout.specs.Layout.{Word, NoneEmpty}
use Rattle.text_tables.specs.Tables.{tables}
use Rattle.text_tables.specs.Tally.{AboveAt}
use Rattle.text_check.specs.declared.Lengths.{Lengths}
use Rattle.text_check.specs.Rows.{text_counts, text_rooms, sequence_tests, text_sized, text_checked}

-- nothing is too long, too many or too short
abbrev pub SizesFit : ℕ → List (List Word) → Type 0
SizesFit bytes ss = (bytes ≤ 4294967295) × AllWithin (text_counts ss)

abbrev pub TextFits : ℕ → List (List Word) → Lengths → Type 0
TextFits bytes ss have = (bytes ≤ 4294967295) × Fitting (text_counts ss) (text_rooms (tables ss) have)

pub record GivenTwoFour (check : Checked) (Fits : Type 0) (ss : List (List Word)) : Type 0 where
  pub two : (place : ℕ) → check ≡ refused_at 2 place ↔ AtZero Fits place
  pub four : (place : ℕ) → check ≡ refused_at 4 place ↔ Fits × FirstBadOf (sequence_tests ss) place
  pub only : (why : Refusal) → check ≡ Err why → OneOf (2 ∷ 4 ∷ []) why.number
  pub accepted : check ≡ Ok tt ↔ Fits × AllGood (sequence_tests ss)

abbrev pub TextChecksMean : Type 0
TextChecksMean = (bytes : ℕ) (ss : List (List Word)) (have : Lengths) → GivenTwoFour (text_sized bytes ss) (SizesFit bytes ss) ss × GivenTwoFour (text_checked bytes ss have) (TextFits bytes ss have) ss

-- "the index of the first sequence above 128 words": none is empty, so no other is bad
abbrev pub LongMeans : Type 0
LongMeans = (ss : List (List Word)) → NoneEmpty ss → (place : ℕ) → FirstBadOf (sequence_tests ss) place ↔ FirstBad (AboveAt ss) (length ss) place
