-- `survey::survey_text` meets its contract. Assumes nothing.
use native.Mathlib.Omega.{arith}
use Rattle.survey.proofs.Pass.{same_lengths, rooms_on, going_starts, going_some, going_met, going_asks, going_on, going_over}
use Rattle.survey.proofs.survey_text.Goals as goal

pub loop-cursor-init : goal.loop-cursor-init
loop-cursor-init c =
    (same_lengths _ _ _, going_starts c.start-cursor.ensures c.nothing-found.ensures c.requires.survey_asked.free)

pub piece_at-span-requires : goal.piece_at-span-requires
piece_at-span-requires c =
    let g = c.loop-cursor.invariant.1 c.requires.well_formed in
    going_some g c.loop-cursor-test.true

pub with_piece-found-requires : goal.with_piece-found-requires
with_piece-found-requires c =
    let g = c.loop-cursor.invariant.1 c.requires.well_formed in
    going_asks c.requires.well_formed g (rooms_on c.requires.survey_asked.rooms c.loop-cursor.invariant.0) c.loop-cursor-test.true c.piece_at-span.ensures

pub after-cursor-requires : goal.after-cursor-requires
after-cursor-requires c =
    let g = c.loop-cursor.invariant.1 c.requires.well_formed in
    let m = going_met g c.loop-cursor-test.true c.piece_at-span.ensures in
    omega (arith, m.2.stands.inside, c.requires.survey_asked.rooms.small)

pub loop-cursor-smaller : goal.loop-cursor-smaller
loop-cursor-smaller c =
    let g = c.loop-cursor.invariant.1 c.requires.well_formed in
    let m = going_met g c.loop-cursor-test.true c.piece_at-span.ensures in
    omega (arith, m.2.from, m.2.stands.name.low, m.2.stands.low, m.2.stands.inside, c.after-cursor.ensures.on)

pub loop-cursor-preserved : goal.loop-cursor-preserved
loop-cursor-preserved c =
    let i = c.loop-cursor.invariant in (
      record {
        labels_long = omega arith;
        slots_long = omega arith;
        positions_long = omega arith;
      },
      λ h. going_on (i.1 h) c.loop-cursor-test.true c.piece_at-span.ensures c.after-cursor.ensures c.with_piece-found.ensures,
    )

pub returns : goal.returns
returns c =
    λ h. going_over (c.loop-cursor.invariant.1 h) c.loop-cursor-test.false
