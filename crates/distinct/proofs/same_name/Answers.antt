-- `distinct::same_name` meets its contract. Assumes nothing.
use mathlib.Core.Path.{refl, sym}
use native.Mathlib.Omega.{arith}
use Rattle.distinct.proofs.Raw.{too_short, differs, alike_ends}
use Rattle.distinct.proofs.same_name.Goals as goal

pub returns-then-text-p : goal.returns-then-text-p
returns-then-text-p c = sym (too_short _ _ _ _ _ c.requires.0 refl c.if-text-p.true)

pub returns-then-text-p-2 : goal.returns-then-text-p-2
returns-then-text-p-2 c =
    sym (differs _ _ _ _ _ c.requires.0 refl _ c.loop-k-test.true c.if-text-p-2.true)

pub returns : goal.returns
returns c =
    alike_ends _ _ _ _ _ c.requires.0 refl _ _ c.if-text-p.false c.requires.1 c.loop-k.invariant c.loop-k-test.false _ (omega arith) c.ends_at.ensures
