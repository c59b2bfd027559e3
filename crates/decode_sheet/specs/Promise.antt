-- What `decode_sheet` promises: the answer, and what the lent line holds afterwards. Assumes nothing.
use Rattle.refusals.specs.declared.Refusal.{Refusal}
use Rattle.std.specs.Prelude.{◌≡◌, List, ◌++◌, ℕ, length, drop, Ok, Err, Result}
use Rattle.refusals.specs.Refusals.{Checked}
use Rattle.refusals.specs.Said.{Said, accepted, refused, or_refused}
use Rattle.decode_sheet.specs.Answer.{path_line_for, buffer_checked}

-- what the call is given: the file's bytes
pub record Given : Type 0 where
  pub bytes : List ℕ

-- the answer, and what the lent line holds afterwards
pub record Outcome : Type 0 where
  pub answer : Result ℕ Refusal
  pub line : List ℕ

-- document 01's number and values for each case of the answer; a path's line has a length
abbrev pub said : Result ℕ Refusal → Said ℕ
said (Ok size) = accepted size
said (Err why) = refused why

-- the refusal of the first row that refuses, or else the length of the path's line
abbrev pub answer_by : Checked → List ℕ → Said ℕ
answer_by checked line = or_refused checked (accepted (length line))

-- "After 1 to 7 and 10 every lent buffer holds its entry contents"; else the line stands in front, and the tail is unchanged
abbrev pub line_by : Checked → List ℕ → List ℕ → List ℕ
line_by (Ok _) line before = line ++ drop (length line) before
line_by (Err why) line before = before

unfoldable pub answer_to : Given → List ℕ → Said ℕ
answer_to given before = answer_by (buffer_checked given.bytes (length before)) (path_line_for given.bytes)

unfoldable pub line_after : Given → List ℕ → List ℕ
line_after given before = line_by (buffer_checked given.bytes (length before)) (path_line_for given.bytes) before

-- the promise
pub record Promised (given : Given) (before : List ℕ) (outcome : Outcome) : Type 0 where
  pub answers : said outcome.answer ≡ answer_to given before
  pub fills_line : outcome.line ≡ line_after given before

-- no two different outcomes satisfy it. The proof is in proofs/Once
abbrev pub OnlyOne : Type 0
OnlyOne = (given : Given) (before : List ℕ) (o p : Outcome) → Promised given before o → Promised given before p → o ≡ p
