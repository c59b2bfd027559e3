-- `updates::look` meets its contract. Assumes nothing.
use borrow.Author.Rules.{rules}
use Rattle.updates.proofs.look.Goals as goal

pub returns : goal.returns
returns c = λ l. rw (← c.agree.ensures) (c.look_at.ensures l)
