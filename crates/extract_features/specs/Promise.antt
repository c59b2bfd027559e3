-- What counting the features of a line promises: document 01's answer to what the call is given, and what the lent buffer holds afterwards. Assumes nothing.
use Rattle.std.specs.Prelude.{◌≡◌, List, ℕ, length, Float}
use Rattle.refusals.specs.Refusals.{Checked, or_next_of}
use Rattle.binary64.specs.Numbers.{nought}
use Rattle.lines.specs.Tables.{Model, Words}
use Rattle.lines.specs.Counted.{counts_of}
use Rattle.refusals.specs.Said.{Said, said_of}
use Rattle.line_check.specs.Rows.{Counting, counting_checked}
use Rattle.finished.specs.Rows.{finished_checked}
use Rattle.finished.specs.After.{contents}

-- what the call is given: a model, T, the line's attributes by words, and a label for each word; "Feature counts .. are lent no weight table"
pub record Given : Type 0 where
  pub model : Model
  pub words : ℕ
  pub line : Words
  pub path : List ℕ

-- the answer, and what the buffer for the counts holds afterwards
pub record Outcome : Type 0 where
  pub answer : Checked
  pub amounts : List Float

-- a count for each feature
abbrev pub needed : Given → ℕ
needed given = given.model.features.count

-- the line's feature counts
abbrev pub counts_of_line : Given → List Float
counts_of_line given = counts_of given.model given.line 0 given.words given.path

-- 1, 4, 2, 3, 5, 6
abbrev pub counting_of : Given → List Float → Counting
counting_of given before = record {
  model = given.model;
  words = given.words;
  line = given.line;
  path = given.path;
  features = length before;
}

abbrev pub checked_of : Given → List Float → Checked
checked_of given before = counting_checked (counting_of given before)

-- 8
abbrev pub counts_finished_of : Given → Checked
counts_finished_of given = finished_checked (counts_of_line given) (needed given)

-- what document 01 says: "The lowest number wins", so 8 comes last
unfoldable pub answer_to : Given → List Float → Said Unit
answer_to given before = said_of (or_next_of (checked_of given before) (counts_finished_of given))

unfoldable pub amounts_after : Given → List Float → List Float
amounts_after given before = contents (checked_of given before) (counts_finished_of given) nought (needed given) before (counts_of_line given)

-- the promise
pub record Promised (given : Given) (before : List Float) (outcome : Outcome) : Type 0 where
  pub answers : said_of outcome.answer ≡ answer_to given before
  pub amounts : outcome.amounts ≡ amounts_after given before

-- no two different outcomes satisfy one promise; proved in proofs/Unique
abbrev pub OnlyOne : Type 0
OnlyOne = (given : Given) (before : List Float) (a b : Outcome) → Promised given before a → Promised given before b → a ≡ b
