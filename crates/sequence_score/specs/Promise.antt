-- What a path score promises: document 01's answer to what the call is given. It is lent nothing to change, so the outcome is the answer. Assumes nothing.
use Rattle.std.specs.Prelude.{◌≡◌, List, ℕ, Float, Ok, Err, Result}
use Rattle.refusals.specs.Refusals.{Checked}
use Rattle.refusals.specs.Said.{Said, accepted, refused, or_refused}
use Rattle.best_path.specs.Scores.{tabled}
use Rattle.best_path.specs.PathScore.{path_score}
use Rattle.refusals.specs.declared.Refusal.{Refusal}
use Rattle.sequence_score.specs.Rows.{path_checked}

-- the numbers and tables that the call reads: of the path its first `count` labels
pub record Given : Type 0 where
  pub labels : ℕ
  pub words : ℕ
  pub transitions : List Float
  pub states : List Float
  pub path : List ℕ
  pub count : ℕ

-- document 01's number and values for each case of the answer
abbrev pub said : Result Float Refusal → Said Float
said (Ok score) = accepted score
said (Err why) = refused why

-- the first row of the table of refusals that applies, where one does
abbrev pub checked_of : Given → Checked
checked_of given = path_checked given.labels given.words given.transitions given.states given.path given.count

-- what document 01 says: refused by the first row that applies, or else the path score
unfoldable pub answer_to : Given → Said Float
answer_to given =
    or_refused (checked_of given)
    (accepted (path_score (tabled given.labels given.transitions given.states) given.path given.count))

-- the promise
pub record Promised (given : Given) (outcome : Result Float Refusal) : Type 0 where
  pub answers : said outcome ≡ answer_to given

-- no two different outcomes satisfy one promise; proved in proofs/Unique
abbrev pub OnlyOne : Type 0
OnlyOne = (given : Given) (a b : Result Float Refusal) → Promised given a → Promised given b → a ≡ b
