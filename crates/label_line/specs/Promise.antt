-- What labelling a line promises: document 01's answer to what the call is given, and what the lent buffer holds afterwards. Assumes nothing.
use Rattle.refusals.specs.declared.Refusal.{Refusal}
use Rattle.viterbi_end.specs.declared.Found.{Found}
use Rattle.std.specs.Prelude.{◌≡◌, List, ℕ, ◌≤◌, length, Float, Result}
use Rattle.refusals.specs.Refusals.{Checked, or_next_of}
use Rattle.refusals.specs.Said.{Said, or_refused}
use Rattle.best_path.specs.Scores.{Scores, tabled}
use Rattle.best_path.specs.Decoded.{decoded_path, decoded_sum}
use Rattle.best_path.specs.Lead.{Lead, lead}
use Rattle.viterbi.specs.Promise.{SumAndLead, decoded, said}
use Rattle.feature_gen.specs.Sound.{Weighted}
use Rattle.line_check.specs.Sound.{SoundLine}
use Rattle.finished.specs.After.{contents}
use Rattle.compute_scores.specs.Promise.{Given, states_of_line, transitions_of_line, scores_finished_of}
use Rattle.label_line.specs.Rows.{label_checked}

-- the answer, and what the lent buffer holds afterwards
pub record Outcome : Type 0 where
  pub answer : Result Found Refusal
  pub path : List ℕ

-- the answer is no refusal
abbrev pub IsLabelled : Outcome → Type 0
IsLabelled outcome = (sum : Float) × (lead : Lead) × (said outcome.answer ≡ decoded sum lead)

-- the scores of the line
abbrev pub scores_of_line : Given → Scores
scores_of_line given = tabled given.model.labels (transitions_of_line given) (states_of_line given)

-- 1, 4, 2, 3, 5, 6
abbrev pub checked_of : Given → List ℕ → Checked
checked_of given before = label_checked given (length before)

-- "The answer is the path and its rounded sum", with the lead
abbrev pub decoded_of : Given → Said SumAndLead
decoded_of given = decoded (decoded_sum (scores_of_line given) given.words) (lead (scores_of_line given) given.words)

-- what document 01 says: "The lowest number wins", so 8, of the scores, comes last
unfoldable pub answer_to : Given → List ℕ → Said SumAndLead
answer_to given before = or_refused (or_next_of (checked_of given before) (scores_finished_of given)) (decoded_of given)

unfoldable pub labels_after : Given → List ℕ → List ℕ
labels_after given before =
    contents (checked_of given before) (scores_finished_of given) 0 given.words before (decoded_path (scores_of_line given) given.words)

-- the promise
pub record Promised (given : Given) (before : List ℕ) (outcome : Outcome) : Type 0 where
  pub answers : said outcome.answer ≡ answer_to given before
  pub path : outcome.path ≡ labels_after given before

-- what labelling relies on once nothing of 1 to 6 applies
pub record SoundLabelling (given : Given) (before : List ℕ) : Type 0 where
  pub model : Weighted given.model given.weights
  pub line : SoundLine given.words given.line
  pub long_path : given.words ≤ length before

-- no two different outcomes satisfy one promise; proved in proofs/Unique
abbrev pub OnlyOne : Type 0
OnlyOne = (given : Given) (before : List ℕ) (a b : Outcome) → Promised given before a → Promised given before b → a ≡ b
