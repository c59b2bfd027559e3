-- `write_check::digits_from` meets its contract. Assumes nothing.
use native.Mathlib.Omega.{arith}
use borrow.Author.Tests.{eq-eqb, ne_eqb}
use Rattle.write_check.proofs.ByteTests.{begins_here, begins_first, begins_none}
use Rattle.write_check.proofs.digits_from.Goals as goal
use Rattle.write_check.proofs.digits_from.Goals.{else-from-to-via-then-from-to+else-bytes-from-eq45, else-from-to-via-else-from-to}

pub returns-then-bytes-from-eq45 : goal.returns-then-bytes-from-eq45
returns-then-bytes-from-eq45 c =
    record { inside = omega (arith, c.if-from-to.true); same = begins_here c.args.bytes.now c.args.from c.args.to c.if-from-to.true c.requires.1 (eq-eqb _ 45 c.if-bytes-from-eq45.true) }

pub returns-else-from-to : goal.returns-else-from-to
returns-else-from-to c =
    elim c.else-from-to.branch [
      | else-from-to-via-then-from-to+else-bytes-from-eq45 w ↦
          record { inside = c.requires.0; same = begins_first c.args.bytes.now c.args.from c.args.to w.if-from-to.true c.requires.1 (ne_eqb _ 45 w.if-bytes-from-eq45.false) }
      | else-from-to-via-else-from-to w ↦
          record { inside = c.requires.0; same = begins_none _ _ _ c.requires.0 w.if-from-to.false }
    ]
