-- `pieces::start` meets its contract. Assumes nothing.
use Rattle.pieces.proofs.Walk.{started}
use Rattle.pieces.proofs.start.Goals as goal

pub returns : goal.returns
returns c = started _
