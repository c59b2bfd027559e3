-- `pieces::name_end` meets its contract. The invariant: a name that began at the start goes on here. Assumes nothing.
use mathlib.Core.Path.{sym, ◌∙◌}
use Rattle.pieces.proofs.Names.{walk_starts, walk_plain, walk_slash, walk_ends, walk_over}
use Rattle.pieces.proofs.name_end.Goals as goal

pub loop-i-init : goal.loop-i-init
loop-i-init c = walk_starts _ _

pub loop-i-preserved-then-b-eq92 : goal.loop-i-preserved-then-b-eq92
loop-i-preserved-then-b-eq92 c =
    walk_slash _ _ _ c.loop-i.invariant c.loop-i-test.true c.if-b-eq92.true

pub returns-then-ends_name : goal.returns-then-ends_name
returns-then-ends_name c =
    walk_ends _ _ _ c.loop-i.invariant c.loop-i-test.true (sym c.ends_name.ensures ∙ c.if-ends_name.true)

pub loop-i-preserved : goal.loop-i-preserved
loop-i-preserved c =
    walk_plain _ _ _ c.loop-i.invariant c.loop-i-test.true c.if-b-eq92.false (sym c.ends_name.ensures ∙ c.if-ends_name.false)

pub returns : goal.returns
returns c =
    walk_over _ _ _ c.loop-i.invariant c.loop-i-test.false
