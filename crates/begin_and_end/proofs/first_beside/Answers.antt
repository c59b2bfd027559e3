-- `begin_and_end::first_beside` meets its contract, trainer by trainer. Assumes nothing.
use borrow.Author.Rules.{rules}
use lib.Ieee.{of_bits}
use Rattle.training.specs.Rules.{beside_at_first}
use Rattle.begin_and_end.proofs.first_beside.Goals as goal

pub returns-in-Perceptron : goal.returns-in-Perceptron
unfolding beside_at_first of_bits
returns-in-Perceptron c = rw c.in-Perceptron.is

pub returns-in-Passive : goal.returns-in-Passive
unfolding beside_at_first of_bits
returns-in-Passive c = rw c.in-Passive.is

pub returns-in-Arow : goal.returns-in-Arow
unfolding beside_at_first
returns-in-Arow c = rw c.in-Arow.is
