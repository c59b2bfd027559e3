-- `sheet::is_wrong_length` meets its contract. Assumes nothing.
use Rattle.sheet.proofs.is_wrong_length.Goals as goal

pub returns : goal.returns
returns c = rw c.whole_length.ensures
