-- `write_check::is_no_scale` meets its contract. Assumes nothing.
use mathlib.Core.Path.{◌∙◌}
use native.Mathlib.Omega.{arith}
use Rattle.write_check.proofs.ByteTests.{sorting_point, sorting_digit, sorting_other, sorting_over, kept_is}
use Rattle.write_check.proofs.is_no_scale.Goals as goal
use Rattle.write_check.proofs.is_no_scale.Goals.{in-46, in-48-to-57}

pub returns-in_default : goal.returns-in_default
returns-in_default c =
    sorting_other c.loop-b.invariant c.loop-b-test.true (λ e. omega arith) (λ h k. omega arith) ∙ kept_is c.digits_from-first.ensures

pub returns-in_default-2 : goal.returns-in_default-2
returns-in_default-2 c =
    sorting_other c.loop-b.invariant c.loop-b-test.true (λ e. omega arith) (λ h k. omega arith) ∙ kept_is c.digits_from-first.ensures

pub loop-b-preserved : goal.loop-b-preserved
loop-b-preserved c =
    elim c.match-b.branch [
      | in-46 w ↦
          rw (w.points-is, w.digits-is) (sorting_point c.loop-b.invariant c.loop-b-test.true (omega arith))
      | in-48-to-57 w ↦
          rw (w.points-is, w.digits-is) (sorting_digit c.loop-b.invariant c.loop-b-test.true (omega arith) (omega arith))
    ]

pub returns : goal.returns
returns c =
    c.miscounts.ensures ∙ sorting_over c.loop-b.invariant c.loop-b-test.false ∙ kept_is c.digits_from-first.ensures
