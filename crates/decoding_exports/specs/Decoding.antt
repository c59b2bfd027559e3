-- What decoding a line and scoring a path give to C: the answers of the crates viterbi and sequence_score, as numbers. Assumes nothing.
use Rattle.std.specs.Prelude.{◌≡◌, List, ℕ}
use Rattle.viterbi.specs.Promise.{Given, answer_to, path_after}
use Rattle.sequence_score.specs.Promise as path
use Rattle.answers.specs.declared.decoding.Scored.{Scored}
use Rattle.answers.specs.Numbers.{decoded_numbers, DecodedLine, scored_numbers}

-- the promise of a decoded line
pub record Decodes (given : Given) (before : List ℕ) (outcome : DecodedLine) : Type 0 where
  pub answers : outcome.answer ≡ decoded_numbers (answer_to given before)
  pub path : outcome.path ≡ path_after given before

-- the promise of a scored path, which is lent nothing to change
pub record ScoresPath (given : path.Given) (answer : Scored) : Type 0 where
  pub answers : answer ≡ scored_numbers (path.answer_to given)
