-- `pieces::unescape` meets its contract. Assumes nothing.
use Rattle.pieces.proofs.Bare.{writing_skip, writing_room, writing_keep, writing_over}
use Rattle.pieces.proofs.Parts.{slice_lent}
use Rattle.pieces.proofs.unescape.Goals as goal
use Rattle.pieces.proofs.unescape.Goals.{then-not-slashed, else-not-slashed}

pub bounds-out-k : goal.bounds-out-k
bounds-out-k c = writing_room c.loop-b.invariant c.loop-b-test.true c.skips-slashed.ensures c.if-not-slashed.true

pub loop-b-preserved : goal.loop-b-preserved
loop-b-preserved c =
    elim c.if-not-slashed.branch [
      | then-not-slashed w ↦
          rw (w.k-is, w.out-is) (writing_keep c.loop-b.invariant c.loop-b-test.true c.skips-slashed.ensures w.if-not-slashed.true)
      | else-not-slashed w ↦
          rw (w.k-is, w.out-is) (writing_skip c.loop-b.invariant c.loop-b-test.true c.skips-slashed.ensures w.if-not-slashed.false)
    ]

pub returns : goal.returns
returns c = rw slice_lent (writing_over c.loop-b.invariant c.loop-b-test.false)
