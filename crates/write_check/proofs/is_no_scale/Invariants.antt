-- `write_check::is_no_scale` meets its contract. Assumes nothing.
use Rattle.write_check.proofs.ByteTests.{Sorting}
use Rattle.write_check.proofs.is_no_scale.Given as goal

abbrev pub invariant-loop-b : goal.invariant-loop-b
invariant-loop-b l = Sorting l.b-items l.b-index l.points l.digits
