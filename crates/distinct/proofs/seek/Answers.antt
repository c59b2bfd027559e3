-- `distinct::seek` meets its contract. Assumes nothing.
use mathlib.Core.Path.{◌∙◌}
use Rattle.distinct.proofs.Loops.{seek_begins, seek_inside, seek_on, seek_here, seek_ends, free_here, slot_says}
use Rattle.distinct.proofs.seek.Goals as goal

pub loop-init : goal.loop-init
loop-init c =
    seek_begins _ _ _ _ _ _ _ c.requires.0.some c.requires.1 c.home_of-i.ensures

pub at-v-requires : goal.at-v-requires
at-v-requires c =
    seek_inside _ _ _ _ _ _ c.loop.invariant c.loop-test.true

pub returns-then-v-eq0 : goal.returns-then-v-eq0
returns-then-v-eq0 c =
    seek_here _ _ _ _ _ _ c.loop.invariant c.loop-test.true (free_here _ _ _ _ _ _ c.loop.invariant _ c.at-v.ensures c.if-v-eq0.true)

pub returns-then-same_name : goal.returns-then-same_name
returns-then-same_name c =
    seek_here _ _ _ _ _ _ c.loop.invariant c.loop-test.true
    (slot_says _ _ _ _ _ _ _ _ _ _ _ c.loop.invariant c.requires.0 c.at-v.ensures c.if-v-eq0.false c.at-p.ensures c.same_name.ensures ∙ c.if-same_name.true)

pub loop-preserved : goal.loop-preserved
loop-preserved c =
    seek_on _ _ _ _ _ _ c.loop.invariant _ c.loop-test.true c.slot_after-i.ensures
    (slot_says _ _ _ _ _ _ _ _ _ _ _ c.loop.invariant c.requires.0 c.at-v.ensures c.if-v-eq0.false c.at-p.ensures c.same_name.ensures ∙ c.if-same_name.false)

pub returns : goal.returns
returns c =
    seek_ends _ _ _ _ _ _ c.loop.invariant c.loop-test.false
