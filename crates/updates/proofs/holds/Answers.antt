-- `updates::holds` meets its contract. Assumes nothing.
use borrow.Author.Rules.{rules}
use Rattle.updates.proofs.holds.Goals as goal

pub returns : goal.returns
returns c = rw c.is_finite.ensures
