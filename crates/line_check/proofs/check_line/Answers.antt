-- `line_check::check_line` meets its contract: where the sizes are accepted, every table has room for its test. Assumes nothing.
use Rattle.line_check.proofs.Laws.{line_room}
use Rattle.line_check.proofs.check_line.Goals as goal

pub check_starts-requires : goal.check_starts-requires
check_starts-requires c = (line_room _ _ c.check_sizes.ensures c.in_ok-check_sizes.was).starts

pub check_numbers-requires : goal.check_numbers-requires
check_numbers-requires c = (line_room _ _ c.check_sizes.ensures c.in_ok-check_sizes.was).values
