-- `pieces::unescape` meets its contract. Assumes nothing.
use Rattle.pieces.proofs.Bare.{Writing}
use Rattle.pieces.proofs.unescape.Given as goal

abbrev pub invariant-loop-b : goal.invariant-loop-b
invariant-loop-b l = Writing l.b-items l.b-index l.slashed l.k l.at l.out l.initial.out
