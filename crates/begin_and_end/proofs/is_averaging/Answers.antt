-- `begin_and_end::is_averaging` meets its contract, trainer by trainer. Assumes nothing.
use borrow.Author.Rules.{rules}
use Rattle.training.specs.Rules.{averaged_by}
use Rattle.begin_and_end.proofs.is_averaging.Goals as goal

pub returns-in-Perceptron : goal.returns-in-Perceptron
unfolding averaged_by
returns-in-Perceptron c = λ f k s. rw c.in-Perceptron.is

pub returns-in-Passive : goal.returns-in-Passive
unfolding averaged_by
returns-in-Passive c = λ f k s. rw c.in-Passive.is

pub returns-in-Arow : goal.returns-in-Arow
unfolding averaged_by
returns-in-Arow c = λ f k s. rw c.in-Arow.is
