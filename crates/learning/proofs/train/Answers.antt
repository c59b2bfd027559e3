-- `learning::train` meets its contract: the run begins as the definition has it, and its end is the definition's. Assumes nothing.
use mathlib.Core.Path.{refl}
use native.Mathlib.Omega.{arith}
use borrow.Author.Rules.{rules}
use Rattle.lines.specs.Tables.{Model}
use Rattle.lines.specs.Data.{Data}
use Rattle.training.specs.Epochs.{Settings, trained}
use Rattle.training.proofs.Orders.{order_first}
use Rattle.prediction.specs.Tables.{training_model_of, training_data_of}
use Rattle.learning.proofs.Laws.{ran_from}
use Rattle.learning.proofs.train.Goals.{Start}
use Rattle.learning.proofs.train.Goals as goal

-- the model, the data and the settings that the arguments make
abbrev model : Start → Model
model c =
    let a = c.args in
    training_model_of a.sizes a.kinds.now a.destinations.now a.sources.now a.starts.now a.entries.now a.label_starts.now a.label_entries.now

abbrev data_of : Start → Data
data_of c =
    let a = c.args in
    training_data_of a.sizes a.lines.now a.begins.now a.ids.now a.values.now a.references.now a.shares.now

abbrev settings : Start → Settings
settings c = record { epochs = c.args.allowed; epsilon = c.args.epsilon; seed = c.args.seed }

pub run-ran-requires : goal.run-ran-requires
run-ran-requires c =
    let e = c.requires.exact in
    let k = c.begin.auto in
    record {
      model = c.requires.model;
      corpus = c.requires.corpus;
      exact = record { weights_long = omega (arith, k, e); beside_long = omega (arith, k, e); truly_long = e.truly_long; predicted_long = e.predicted_long };
      few = c.requires.few;
      ordered = rw c.begin.ensures.order_is (order_first _);
    }

pub conclude-answer-requires : goal.conclude-answer-requires
conclude-answer-requires c =
    let e = c.requires.exact in
    (omega (arith, c.run-ran.auto, c.begin.auto, e), omega (arith, c.run-ran.auto, c.begin.auto, e), c.run-ran.ensures.visits)

pub sweep-requires : goal.sweep-requires
sweep-requires c =
    omega (arith, c.conclude-answer.auto, c.run-ran.auto, c.begin.auto, c.requires.exact, c.requires.order_long)

pub shape_of-order : goal.shape_of-order
shape_of-order c =
    omega (arith, c.sweep.auto, c.run-ran.auto, c.begin.auto)

pub shape_of-weights : goal.shape_of-weights
shape_of-weights c =
    omega (arith, c.conclude-answer.auto, c.run-ran.auto, c.begin.auto)

pub shape_of-beside : goal.shape_of-beside
shape_of-beside c =
    omega (arith, c.sweep.auto, c.run-ran.auto, c.begin.auto)

pub shape_of-truly : goal.shape_of-truly
shape_of-truly c =
    omega (arith, c.sweep.auto, c.run-ran.auto)

pub shape_of-predicted : goal.shape_of-predicted
shape_of-predicted c =
    omega (arith, c.sweep.auto, c.run-ran.auto)

pub returns : goal.returns
unfolding trained
returns c =
    record { made_after = c.conclude-answer.ensures (settings (goal.at.returns c).Start) (model (goal.at.returns c).Start) (data_of (goal.at.returns c).Start) _ refl (ran_from _ (settings (goal.at.returns c).Start) (model (goal.at.returns c).Start) (data_of (goal.at.returns c).Start) c.begin.ensures c.run-ran.ensures); swept = c.sweep.ensures }
