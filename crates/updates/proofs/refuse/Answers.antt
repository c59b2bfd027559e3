-- `updates::refuse` meets its contract. Assumes nothing.
use borrow.Author.Rules.{rules}
use Rattle.training.specs.Visits.{refused_as}
use Rattle.updates.proofs.refuse.Goals as goal

pub returns : goal.returns
unfolding refused_as
returns c = λ l. rw (c.numbered.ensures, c.place.ensures)
