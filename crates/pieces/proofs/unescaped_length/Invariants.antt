-- `pieces::unescaped_length` meets its contract. Assumes nothing.
use Rattle.pieces.proofs.Bare.{Counting}
use Rattle.pieces.proofs.unescaped_length.Given as goal

abbrev pub invariant-loop-b : goal.invariant-loop-b
invariant-loop-b l = Counting l.b-items l.b-index l.count l.slashed
