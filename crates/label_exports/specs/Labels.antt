-- What labelling a line gives to C: the answer of the crate label_line, as the numbers of a decoded one. Assumes nothing.
use Rattle.std.specs.Prelude.{◌≡◌, List, ℕ}
use Rattle.compute_scores.specs.Promise.{Given}
use Rattle.label_line.specs.Promise.{answer_to, labels_after}
use Rattle.answers.specs.Numbers.{decoded_numbers, DecodedLine}

-- the promise of a labelled line
pub record Labels (given : Given) (before : List ℕ) (outcome : DecodedLine) : Type 0 where
  pub answers : outcome.answer ≡ decoded_numbers (answer_to given before)
  pub path : outcome.path ≡ labels_after given before
