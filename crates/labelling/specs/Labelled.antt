-- What the scores of a line give: 8, or the decoded path. Assumes nothing.
use Rattle.refusals.specs.declared.Refusal.{Refusal}
use Rattle.viterbi_end.specs.declared.Found.{Found}
use Rattle.std.specs.Prelude.{◌≡◌, Bool, ◌&&◌, List, ℕ, ◌*◌, ◌≤◌, leb, length, Float, Ok, Result}
use Rattle.refusals.specs.Said.{or_refused}
use Rattle.best_path.specs.Scores.{tabled}
use Rattle.best_path.specs.Decoded.{decoded_path, decoded_sum}
use Rattle.best_path.specs.Lead.{lead}
use Rattle.score_tables.specs.Sound.{LabelsIn, WordsIn}
use Rattle.lines.specs.Tables.{Model, Words}
use Rattle.lines.specs.Scored.{states_of}
use Rattle.viterbi.specs.Promise.{decoded, said}
use Rattle.finished.specs.Rows.{scores_finished}
use Rattle.finished.specs.After.{contents}

-- "The answer is the path and its rounded sum", with the lead; "After 8 .. the needed front of every result .. buffer is zero"
pub record Labelled (labels words : ℕ) (transitions states : List Float) (before : List ℕ) (answer : Result Found Refusal) (after : List ℕ) : Type 0 where
  pub answers : said answer ≡ or_refused (scores_finished labels words states transitions) (decoded (decoded_sum (tabled labels transitions states) words) (lead (tabled labels transitions states) words))
  pub path : after ≡ contents (Ok tt) (scores_finished labels words states transitions) 0 words before (decoded_path (tabled labels transitions states) words)

-- by the states of the line that begins at the word `first`, which are in a table of their own afterwards
pub record LabelledAt (m : Model) (weights : List Float) (line : Words) (first words : ℕ) (transitions : List Float) (before : List ℕ) (answer : Result Found Refusal) (states : List Float) (after : List ℕ) : Type 0 where
  pub scored : states ≡ states_of m weights line first words
  pub labelled : Labelled m.labels words transitions (states_of m weights line first words) before answer after

-- what labelling a line asks of the lent tables: the states have a table that is exactly as long as it has to be
pub record LentTables (labels words : ℕ) (transitions states : List Float) (path : List ℕ) : Type 0 where
  pub labels_in : LabelsIn labels
  pub words_in_lem : WordsIn words
  pub long_transitions : labels * labels ≤ length transitions
  pub long_states : length states ≡ words * labels
  pub long_path : words ≤ length path

-- a line whose transitions and states have room in 256 entries each
abbrev pub small : (labels words : ℕ) → Bool
small labels words = leb (labels * labels) 256 && leb (words * labels) 256
