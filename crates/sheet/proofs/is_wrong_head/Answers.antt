-- `sheet::is_wrong_head` meets its contract. Assumes nothing.
use Rattle.sheet.proofs.is_wrong_head.Goals as goal

pub returns : goal.returns
returns c = rw (c.version_in.ensures, c.byte_at-3.ensures.0, c.byte_at-2.ensures.0, c.byte_at.ensures.0)
