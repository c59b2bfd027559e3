-- What `read_sheet` promises: document 01's answer to the bytes, and what the two lent tables hold afterwards. Assumes nothing.
use Rattle.refusals.specs.declared.Refusal.{Refusal}
use Rattle.sheet.specs.declared.Size.{Size}
use Rattle.std.specs.Prelude.{◌≡◌, List, ◌++◌, ℕ, length, drop, Float, Ok, Err, Result}
use Rattle.refusals.specs.Refusals.{Checked}
use Rattle.refusals.specs.Said.{Said, accepted, refused, or_refused}
use Rattle.sheet.specs.Fields.{labels_in_of, words_in, transitions_in_of, states_in_of}
use Rattle.sheet.specs.Rows.{Given, Lent, sheet_checked}

-- the answer, and what the lent tables hold afterwards
pub record Outcome : Type 0 where
  pub answer : Result Size Refusal
  pub transitions : List Float
  pub states : List Float

-- what an accepted call gives beside the tables: L and T
pub record LabelsAndWords : Type 0 where
  pub labels : ℕ
  pub words : ℕ

-- document 01's number and values for each case of the answer
abbrev pub read : ℕ → ℕ → Said LabelsAndWords
read labels words = accepted (record { labels = labels; words = words })

abbrev pub said : Result Size Refusal → Said LabelsAndWords
said (Ok size) = read size.labels size.words
said (Err why) = refused why

-- the refusal of the first row that refuses, or else L and T
abbrev pub answer_by : Checked → List ℕ → Said LabelsAndWords
answer_by checked bytes = or_refused checked (read (labels_in_of bytes) (words_in bytes))

-- "After 1 to 7 and 10 every lent buffer holds its entry contents"; else a table has the file's numbers in front, and its tail is unchanged
abbrev pub table_by : Checked → List Float → List Float → List Float
table_by (Ok _) table before = table ++ drop (length table) before
table_by (Err why) table before = before

unfoldable pub answer_to : Given → Lent → Said LabelsAndWords
answer_to given before = answer_by (sheet_checked given before) given.bytes

unfoldable pub transitions_after : Given → Lent → List Float
transitions_after given before = table_by (sheet_checked given before) (transitions_in_of given.bytes) before.transitions

unfoldable pub states_after : Given → Lent → List Float
states_after given before = table_by (sheet_checked given before) (states_in_of given.bytes) before.states

-- the promise
pub record Promised (given : Given) (before : Lent) (outcome : Outcome) : Type 0 where
  pub answers : said outcome.answer ≡ answer_to given before
  pub fills_transitions : outcome.transitions ≡ transitions_after given before
  pub fills_states : outcome.states ≡ states_after given before

-- no two different outcomes satisfy it. The proof is in proofs/Once
abbrev pub OnlyOne : Type 0
OnlyOne = (given : Given) (before : Lent) (o p : Outcome) → Promised given before o → Promised given before p → o ≡ p
