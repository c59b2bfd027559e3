-- `updates::is_low` meets its contract, trainer by trainer. Assumes nothing.
use borrow.Author.Rules.{rules}
use Rattle.training.specs.Rules.{stops}
use Rattle.updates.proofs.is_low.Goals as goal

pub returns-in-Perceptron : goal.returns-in-Perceptron
unfolding stops
returns-in-Perceptron c = rw c.in-Perceptron.is

pub returns-in-Passive : goal.returns-in-Passive
unfolding stops
returns-in-Passive c = rw c.in-Passive.is

pub returns-in-Arow : goal.returns-in-Arow
unfolding stops
returns-in-Arow c = rw c.in-Arow.is
