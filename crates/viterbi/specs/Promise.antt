-- What decoding a line promises: document 01's answer to what the call is given, and what the lent buffer holds afterwards. Assumes nothing.
use Rattle.refusals.specs.declared.Refusal.{Refusal}
use Rattle.viterbi_end.specs.declared.Found.{Found}
use Rattle.std.specs.Prelude.{◌≡◌, List, ◌++◌, ℕ, drop, Float, Ok, Err, Result}
use Rattle.refusals.specs.Refusals.{Checked}
use Rattle.refusals.specs.Said.{Said, accepted, refused, or_refused}
use Rattle.best_path.specs.Scores.{Scores, tabled}
use Rattle.best_path.specs.Decoded.{decoded_path, decoded_sum}
use Rattle.best_path.specs.Lead.{Lead, lead}
use Rattle.viterbi_end.specs.Ends.{lead_said}
use Rattle.viterbi.specs.Rows.{decode_checked}

-- what the call is given: the numbers and tables that it reads
pub record Given : Type 0 where
  pub labels : ℕ
  pub words : ℕ
  pub transitions : List Float
  pub states : List Float

-- the answer, and what the lent buffer holds afterwards
pub record Outcome : Type 0 where
  pub answer : Result Found Refusal
  pub path : List ℕ

-- what an accepted call gives beside the path
pub record SumAndLead : Type 0 where
  pub sum : Float
  pub lead : Lead

-- document 01's number and values for each case of the answer
abbrev pub decoded : Float → Lead → Said SumAndLead
decoded sum lead = accepted (record { sum = sum; lead = lead })

abbrev pub said : Result Found Refusal → Said SumAndLead
said (Ok found) = decoded found.sum (lead_said found.lead)
said (Err why) = refused why

-- the scores of the line
abbrev pub scores_of : Given → Scores
scores_of given = tabled given.labels given.transitions given.states

-- the first row of the table of refusals that applies, where one does
abbrev pub checked_of : Given → List ℕ → Checked
checked_of given before = decode_checked given.labels given.words given.transitions given.states before

-- "The answer is the path and its rounded sum", with the lead
unfoldable pub answer_to : Given → List ℕ → Said SumAndLead
answer_to given before =
    or_refused (checked_of given before) (decoded (decoded_sum (scores_of given) given.words) (lead (scores_of given) given.words))

abbrev pub or_entry : Checked → List ℕ → List ℕ → List ℕ
or_entry (Ok _) before after = after
or_entry (Err why) before after = before

-- the path at the front of its buffer, "only the needed front is touched"; its entry contents where the call is refused
unfoldable pub path_after : Given → List ℕ → List ℕ
path_after given before =
    or_entry (checked_of given before) before (decoded_path (scores_of given) given.words ++ drop given.words before)

-- the promise
pub record Promised (given : Given) (before : List ℕ) (outcome : Outcome) : Type 0 where
  pub answers : said outcome.answer ≡ answer_to given before
  pub path : outcome.path ≡ path_after given before

-- no two different outcomes satisfy one promise; proved in proofs/Unique
abbrev pub OnlyOne : Type 0
OnlyOne = (given : Given) (before : List ℕ) (a b : Outcome) → Promised given before a → Promised given before b → a ≡ b
