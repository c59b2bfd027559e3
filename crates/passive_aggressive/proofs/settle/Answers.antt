-- `passive_aggressive::settle` meets its contract. The loop's invariant: the notes before this one are added up. Assumes nothing.
use mathlib.Core.Path.{◌∙◌}
use native.Mathlib.Omega.{arith}
use Prim.Native.Nat.{◌<◌}
use lib.ListN.{length-take}
use Rattle.std.proofs.lemmas.List.{get_or-take}
use Rattle.lines.proofs.Laws.{through_none, through_next, through_end}
use Rattle.passive_aggressive.specs.Noted.{four_added, fours_added}
use Rattle.passive_aggressive.proofs.Notes.{by_four}
use Rattle.passive_aggressive.proofs.settle.Goals as goal

pub loop-first-init : goal.loop-first-init
loop-first-init c = through_none _ _ _

pub loop-first-preserved : goal.loop-first-preserved
unfolding four_added
loop-first-preserved c =
    let noted : c.loop-first.first-index < c.args.noted = omega (arith, length-take c.args.noted c.args.who.now) in
    through_next _ _ _ c.loop-first.invariant (rw (get_or-take c.args.noted c.args.who.now c.loop-first.first-index 0) at (c.add_up-s.ensures ∙ by_four _ _ _))

pub returns : goal.returns
unfolding fours_added
returns c =
    let e = length-take c.args.noted c.args.who.now in
    c.loop-first.invariant ∙ through_end _ _ _ _ (omega (arith, e)) (omega (arith, e, c.requires.four_notes.there))
