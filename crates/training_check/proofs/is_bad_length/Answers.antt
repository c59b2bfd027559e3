-- `training_check::is_bad_length` meets its contract. Assumes nothing.
use mathlib.Core.Path.{sym}
use Rattle.training_check.proofs.Laws.{no_line}
use Rattle.training_check.proofs.is_bad_length.Goals as goal

pub returns-else-start-next : goal.returns-else-start-next
returns-else-start-next c = sym (no_line _ _ c.if-start-next.false)
