-- `refusals::sooner` meets its contract, case by case. Assumes nothing.
use Rattle.std.specs.Prelude.{Ok, Err}
use Rattle.std.proofs.Common.{sym}
use Rattle.refusals.specs.Refusals.{sooner}
use Rattle.refusals.proofs.sooner.Goals as goal

pub returns-then-goes_before : goal.returns-then-goes_before
unfolding sooner
returns-then-goes_before c = let e = c.in-Err-Err in rw (e.is-0, e.is-1, sym c.goes_before.ensures, c.if-goes_before.true)

pub returns-else-goes_before : goal.returns-else-goes_before
unfolding sooner
returns-else-goes_before c = let e = c.in-Err-Err in rw (e.is-0, e.is-1, sym c.goes_before.ensures, c.if-goes_before.false)

pub returns-in-Err-Ok : goal.returns-in-Err-Ok
unfolding sooner
returns-in-Err-Ok c = let e = c.in-Err-Ok in rw (e.is-0, e.is-1)

pub returns-in-Ok-default : goal.returns-in-Ok-default
unfolding sooner
returns-in-Ok-default c = rw c.in-Ok-default.is-0
