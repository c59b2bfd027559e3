-- `look::look_through` meets its contract. Assumes nothing.
use mathlib.Core.Path.{◌∙◌, sym}
use native.Mathlib.Omega.{arith}
use Rattle.look.proofs.Turns.{begins, again, found, ends_well, ends_badly}
use Rattle.look.proofs.look_through.Goals as goal

pub loop-at-init : goal.loop-at-init
loop-at-init c = begins _

pub turn-w-requires : goal.turn-w-requires
turn-w-requires c = (omega (arith, c.loop-at-test.true), c.loop-at.invariant.living)

pub returns-then-not-is_alive : goal.returns-then-not-is_alive
returns-then-not-is_alive c = found _ _ _ _ c.loop-at.invariant c.turn-w.ensures (sym c.is_alive.ensures ∙ c.if-not-is_alive.true)

pub loop-at-smaller : goal.loop-at-smaller
loop-at-smaller c = omega (arith, c.turn-w.ensures.further (sym c.is_alive.ensures ∙ c.if-not-is_alive.false), c.turn-w.ensures.inside)

pub loop-at-preserved : goal.loop-at-preserved
loop-at-preserved c = again _ _ _ _ c.loop-at.invariant c.turn-w.ensures (sym c.is_alive.ensures ∙ c.if-not-is_alive.false)

pub returns-then-may_end : goal.returns-then-may_end
returns-then-may_end c = ends_well _ _ _ c.loop-at.invariant c.loop-at-test.false (sym c.may_end.ensures ∙ c.if-may_end.true)

pub returns-else-may_end : goal.returns-else-may_end
returns-else-may_end c = ends_badly _ _ _ c.loop-at.invariant c.loop-at-test.false (sym c.may_end.ensures ∙ c.if-may_end.false)
