-- `updates::update` meets its contract: the update of the trainer's own rule. Assumes nothing.
use borrow.Author.Rules.{rules}
use Rattle.updates.proofs.update.Goals as goal

pub returns-in-Perceptron : goal.returns-in-Perceptron
returns-in-Perceptron c =
    rw c.in-Perceptron.is (c.update.ensures _ _)

pub returns-in-Passive : goal.returns-in-Passive
returns-in-Passive c =
    rw c.in-Passive.is (c.update-in-Passive.ensures _)

pub returns-in-Arow : goal.returns-in-Arow
returns-in-Arow c =
    rw c.in-Arow.is (c.update-in-Arow.ensures _ _ _)
