-- What the three trainers give to C: the answers of the crate trainers, as numbers. Assumes nothing.
use Rattle.std.specs.Prelude.{◌≡◌}
use Rattle.parameters.specs.declared.Method.{Method}
use Rattle.trainers.specs.Promise.{Given, Buffers, answer_to, buffers_after}
use Rattle.answers.specs.declared.trainings.Trained.{Trained}
use Rattle.answers.specs.Numbers.{trained_numbers}

-- the answer, and what the lent buffers hold afterwards
pub record Outcome : Type 0 where
  pub answer : Trained
  pub after : Buffers

-- the promise of each of the three
pub record Trains (method : Method) (given : Given) (before : Buffers) (outcome : Outcome) : Type 0 where
  pub answers : outcome.answer ≡ trained_numbers (answer_to method given before)
  pub after : outcome.after ≡ buffers_after method given before
