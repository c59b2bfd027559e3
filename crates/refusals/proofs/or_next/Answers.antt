-- `refusals::or_next` meets its contract. Assumes nothing.
use Rattle.refusals.proofs.Laws.{and_next}
use Rattle.refusals.proofs.or_next.Goals as goal

pub returns : goal.returns
returns c = and_next _ _ c.and.ensures
