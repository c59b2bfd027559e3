-- What decoding gives over tables that are accepted. Assumes nothing.
use Rattle.std.specs.Prelude.{◌≡◌, List, ◌++◌, ℕ, ◌≤◌, length, drop, Float}
use Rattle.best_path.specs.Scores.{tabled}
use Rattle.best_path.specs.Decoded.{decoded_path, decoded_sum}
use Rattle.best_path.specs.Lead.{lead}
use Rattle.score_tables.specs.Sound.{ScoresSized}
use Rattle.viterbi_end.specs.declared.Found.{Found}
use Rattle.viterbi_end.specs.Ends.{lead_said}

-- what it relies on
pub record Ready (labels words : ℕ) (transitions states : List Float) (path : List ℕ) : Type 0 where
  pub sized : ScoresSized labels words transitions states
  pub long_path : words ≤ length path

-- "The answer is the path and its rounded sum", with the lead; what lies after the path in its buffer stays
pub record Answered (labels words : ℕ) (transitions states : List Float) (before : List ℕ) (found : Found) (after : List ℕ) : Type 0 where
  pub sum : found.sum ≡ decoded_sum (tabled labels transitions states) words
  pub lead_is : lead_said found.lead ≡ lead (tabled labels transitions states) words
  pub path : after ≡ decoded_path (tabled labels transitions states) words ++ drop words before
