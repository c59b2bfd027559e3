-- `write_check::is_unclean` meets its contract. Assumes nothing.
use Rattle.std.proofs.Common.{◌≡◌, drop}
use Rattle.write_check.specs.Carry.{unclean}
use Rattle.write_check.proofs.is_unclean.Given as goal

abbrev pub invariant-loop-b : goal.invariant-loop-b
invariant-loop-b l = unclean (drop l.b-index l.b-items) ≡ unclean l.b-items
