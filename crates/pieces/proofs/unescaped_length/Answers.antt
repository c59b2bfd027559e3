-- `pieces::unescaped_length` meets its contract. Assumes nothing.
use Rattle.pieces.proofs.Bare.{counting_skip, counting_keep, counting_over}
use Rattle.pieces.proofs.Parts.{slice_lent}
use Rattle.pieces.proofs.unescaped_length.Goals as goal
use Rattle.pieces.proofs.unescaped_length.Goals.{then-not-slashed, else-not-slashed}

pub loop-b-preserved : goal.loop-b-preserved
loop-b-preserved c =
    elim c.if-not-slashed.branch [
      | then-not-slashed w ↦
          rw w.count-is (counting_keep c.loop-b.invariant c.loop-b-test.true c.skips-slashed.ensures w.if-not-slashed.true)
      | else-not-slashed w ↦
          rw w.count-is (counting_skip c.loop-b.invariant c.loop-b-test.true c.skips-slashed.ensures w.if-not-slashed.false)
    ]

pub returns : goal.returns
returns c = rw slice_lent (counting_over c.loop-b.invariant c.loop-b-test.false)
