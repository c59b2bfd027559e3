-- `fill_text::fill_attributes` meets its contract. Assumes nothing.
use borrow.Author.Rules.{rules}
use native.Mathlib.Omega.{arith}
use Rattle.fill_text.proofs.KeptOn.{kept_start, kept_some, kept_now, kept_may, kept_again, kept_end, kept_laid}
use Rattle.fill_text.proofs.fill_attributes.Goals as goal

pub loop-cursor-init : goal.loop-cursor-init
loop-cursor-init c = kept_start c.start-cursor.ensures

pub piece_at-span-requires : goal.piece_at-span-requires
piece_at-span-requires c =
    kept_some c.requires c.loop-cursor.invariant c.loop-cursor-test.true

pub kept_piece-so_far-requires : goal.kept_piece-so_far-requires
kept_piece-so_far-requires c =
    kept_may c.requires c.loop-cursor.invariant c.loop-cursor-test.true c.piece_at-span.ensures

pub after-cursor-requires : goal.after-cursor-requires
after-cursor-requires c =
    let n = kept_now c.requires c.loop-cursor.invariant c.loop-cursor-test.true c.piece_at-span.ensures in
    omega (arith, n.met.stands.inside, c.requires.small)

pub loop-cursor-smaller : goal.loop-cursor-smaller
loop-cursor-smaller c =
    let n = kept_now c.requires c.loop-cursor.invariant c.loop-cursor-test.true c.piece_at-span.ensures in
    omega (arith, n.met.from, n.met.stands.name.low, n.met.stands.low, n.met.stands.inside, c.after-cursor.ensures.on)

pub loop-cursor-preserved : goal.loop-cursor-preserved
loop-cursor-preserved c =
    kept_again c.requires c.loop-cursor.invariant c.loop-cursor-test.true c.piece_at-span.ensures c.kept_piece-so_far.ensures c.after-cursor.ensures
    (omega arith) (omega arith) (omega arith) (omega arith)

pub overflow_cast-starts : goal.overflow_cast-starts
overflow_cast-starts c =
    let e = kept_end c.requires c.loop-cursor.invariant in
    omega (arith, e.bytes)

pub offset_bounds-starts-attributes : goal.offset_bounds-starts-attributes
offset_bounds-starts-attributes c =
    let e = kept_end c.requires c.loop-cursor.invariant in
    omega (arith, e.attributes)

pub bounds-starts-attributes : goal.bounds-starts-attributes
bounds-starts-attributes c =
    let e = kept_end c.requires c.loop-cursor.invariant in
    e.start

pub shape_of-ids : goal.shape_of-ids
shape_of-ids c =
    c.loop-cursor.invariant.ids

pub shape_of-values : goal.shape_of-values
shape_of-values c =
    c.loop-cursor.invariant.values

pub shape_of-starts : goal.shape_of-starts
shape_of-starts c =
    search (rules, c.loop-cursor.invariant.starts)

pub shape_of-scales : goal.shape_of-scales
shape_of-scales c =
    c.loop-cursor.invariant.scales

pub returns : goal.returns
returns c =
    kept_laid c.requires c.loop-cursor.invariant c.loop-cursor-test.false
