-- What a trainer promises, whichever it is: document 01's answer to what a call is given, and what the lent buffers hold afterwards. Assumes nothing.
use Rattle.refusals.specs.declared.Refusal.{Refusal}
use Rattle.std.specs.Prelude.{◌≡◌, List, ◌++◌, ℕ, length, drop, Float, Ok, Err, Result}
use Rattle.refusals.specs.Refusals.{Checked}
use Rattle.refusals.specs.Said.{Said, or_refused}
use Rattle.binary64.specs.Numbers.{nought}
use Rattle.lines.specs.Tables.{Model}
use Rattle.fronts.specs.Cleared.{cleared}
use Rattle.training.specs.declared.Trained.{Trained}
use Rattle.lines.specs.Data.{Data}
use Rattle.training.specs.Epochs.{TrainingResult, trained}
pub use Rattle.training.specs.Said.{trained_with, said}
use Rattle.parameters.specs.declared.Method.{Method}
use Rattle.parameters.specs.Trainers.{rule_for, settings_for}
use Rattle.parameters.specs.Parameters.{own_of}
use Rattle.training_check.specs.Rows.{Input, training_checked}

-- what it is given: the model's tables, which "are only read", and the instances
pub record Given : Type 0 where
  pub model : Model
  pub corpus : Data

-- the buffers that it is lent: the result's weights; for its work the table beside them, true and predicted counts, and the order of the instances
pub record Buffers : Type 0 where
  pub weights : List Float
  pub beside : List Float
  pub truly : List Float
  pub predicted : List Float
  pub order : List ℕ

-- the answer, and what the buffers hold afterwards
pub record Outcome : Type 0 where
  pub answer : Result Trained Refusal
  pub after : Buffers

-- 1 to 7
abbrev pub input_of : Given → Buffers → Input
input_of given before = record {
  model = given.model;
  corpus = given.corpus;
  lent = record {
    weights = length before.weights;
    beside = length before.beside;
    truly = length before.truly;
    predicted = length before.predicted;
    order = length before.order;
  };
}

abbrev pub checked_of : Method → Given → Buffers → Checked
checked_of method given before = training_checked (input_of given before) (own_of method)

-- 8 and 9 are training's own, and its weights are zero after them
abbrev pub trained_of : Method → Given → TrainingResult
trained_of method given = trained (rule_for method) (settings_for method) given.model given.corpus

-- "After 1 to 7 .. every lent buffer holds its entry contents"; else the trained weights stand in the result's front, and "work buffers' needed fronts are zero": F entries, and N of the order; "only the needed front is touched"
abbrev pub holding : Checked → Given → List Float → Buffers → Buffers
holding (Err why) given weights before = before
holding (Ok _) given weights before =
    let features = given.model.features.count in
    record {
      weights = weights ++ drop features before.weights;
      beside = cleared nought features before.beside;
      truly = cleared nought features before.truly;
      predicted = cleared nought features before.predicted;
      order = cleared 0 given.corpus.instances before.order;
    }

-- what document 01 says: "The lowest number wins", so 8 and 9 come last
unfoldable pub answer_to : Method → Given → Buffers → Said Trained
answer_to method given before = or_refused (checked_of method given before) (said (trained_of method given).answer)

unfoldable pub buffers_after : Method → Given → Buffers → Buffers
buffers_after method given before = holding (checked_of method given before) given (trained_of method given).weights before

-- the promise
pub record Promised (method : Method) (given : Given) (before : Buffers) (outcome : Outcome) : Type 0 where
  pub answers : said outcome.answer ≡ answer_to method given before
  pub after : outcome.after ≡ buffers_after method given before

-- no two different outcomes satisfy one promise; proved in proofs/Unique
abbrev pub OnlyOne : Type 0
OnlyOne = (method : Method) (given : Given) (before : Buffers) (a b : Outcome) → Promised method given before a → Promised method given before b → a ≡ b
