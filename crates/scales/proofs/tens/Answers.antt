-- `scales::tens` meets its contract. Assumes nothing.
use Rattle.scales.proofs.Laws.{tens_at}
use Rattle.scales.proofs.tens.Goals as goal

pub returns : goal.returns
returns c = tens_at _ c.requires
