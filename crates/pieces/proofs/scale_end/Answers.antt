-- `pieces::scale_end` meets its contract. The invariant: a field that went on at the start goes on here. Assumes nothing.
use mathlib.Core.Path.{sym, ◌∙◌}
use native.Mathlib.Omega.{arith}
use Rattle.pieces.proofs.Fields.{run_starts, run_on, run_ends, run_over}
use Rattle.pieces.proofs.scale_end.Goals as goal

pub loop-i-init : goal.loop-i-init
loop-i-init c = run_starts _ _

pub returns-then-ends_field : goal.returns-then-ends_field
returns-then-ends_field c =
    run_ends _ _ _ c.loop-i.invariant c.loop-i-test.true (sym c.ends_field.ensures ∙ c.if-ends_field.true)

pub loop-i-preserved : goal.loop-i-preserved
loop-i-preserved c =
    run_on _ _ _ c.loop-i.invariant c.loop-i-test.true (sym c.ends_field.ensures ∙ c.if-ends_field.false)

pub returns : goal.returns
returns c to g =
    let e = run_over _ _ _ c.loop-i.invariant c.loop-i-test.false to g in
    omega (arith, e, g.inside, c.loop-i-test.false)
