-- `pieces::scale_end` meets its contract. The invariant: a field that went on at the start goes on here. Assumes nothing.
use Rattle.pieces.proofs.Fields.{Run}
use Rattle.pieces.proofs.scale_end.Given as goal

abbrev pub invariant-loop-i : goal.invariant-loop-i
invariant-loop-i l = Run l.text l.at l.i
