-- `fill_text::fill_names` meets its contract. Assumes nothing.
use native.Mathlib.Omega.{arith}
use Rattle.fill_text.proofs.Naming.{name_stands, place_small, names_start, unescape_asks, names_again, names_end}
use Rattle.fill_text.proofs.fill_names.Goals as goal

pub name_end-to-requires : goal.name_end-to-requires
name_end-to-requires c =
    (_, _, name_stands c.requires.placed _ _ c.loop-i-test.true c.at-from.ensures)

pub loop-i-init : goal.loop-i-init
loop-i-init c = names_start c.requires

pub overflow_cast-starts : goal.overflow_cast-starts
overflow_cast-starts c =
    let p = place_small (c.loop-i.invariant.going c.requires.known c.requires.placed) in
    omega (arith, p, c.requires.small)

pub unescape-at-requires : goal.unescape-at-requires
unescape-at-requires c =
    let a = unescape_asks c.requires c.loop-i.invariant c.loop-i-test.true c.at-from.ensures c.name_end-to.ensures in
    record { from_le_to = a.0; room_for = a.1 }

pub loop-i-preserved : goal.loop-i-preserved
loop-i-preserved c =
    names_again c.requires c.loop-i.invariant c.loop-i-test.true c.at-from.ensures c.name_end-to.ensures c.unescape-at.ensures

pub overflow_cast-starts-2 : goal.overflow_cast-starts-2
overflow_cast-starts-2 c =
    let p = place_small (c.loop-i.invariant.going c.requires.known c.requires.placed) in
    omega (arith, p, c.requires.small)

pub returns : goal.returns
returns c =
    names_end c.requires c.loop-i.invariant c.loop-i-test.false
