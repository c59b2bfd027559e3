-- `line_counts::count_word` meets its contract. The loop's invariant: once the notes are added, the attributes before this one have counted; this one and the places of its list are at hand. Assumes nothing.
use native.Mathlib.Omega.{arith}
use Rattle.lines.specs.Counted.{state_count}
use Rattle.lines.proofs.Laws.{between_nothing, passed_none, passed_next}
use Rattle.lines.proofs.Spans.{span_sound}
use Rattle.line_counts.proofs.StateTurns.{counted_turn}
use Rattle.line_counts.proofs.count_word.Goals as goal

pub loop-a-init : goal.loop-a-init
loop-a-init c =
    let p = c.requires in (
      record { notes = p.notes; free = p.noted_in_bounds },
      passed_none _ _ _,
      c.attribute_before-attribute.ensures,
      c.attribute_span-span.ensures,
    )

pub count_attribute-n-requires : goal.count_attribute-n-requires
count_attribute-n-requires c =
    let p = c.requires in
    let g = c.loop-a.invariant.0 in
    record { sound_counts = p.sound_counts; sound_span = rw c.loop-a.invariant.3 (span_sound p.sound_lists _); notes = g.notes; noted_in_bounds = g.free; features_in_bounds = omega (arith, p.features_in_bounds) }

pub loop-a-preserved : goal.loop-a-preserved
unfolding state_count
loop-a-preserved c =
    let i = c.loop-a.invariant in
    let h = c.loop-a-test.true in
    let q = c.count_attribute-n.ensures in (
      record {
        notes = q.notes_2;
        free = q.upper_bound;
      },
      passed_next i.1 h (counted_turn _ _ _ _ _ _ h i.2 i.3 q.counts_value),
      c.attribute_before-next.ensures,
      c.attribute_span-ahead.ensures,
    )

pub returns-else-from-to : goal.returns-else-from-to
returns-else-from-to c =
    let p = c.requires in
    record { notes_2 = p.notes; upper_bound = p.noted_in_bounds; counts_value = between_nothing _ _ _ _ c.if-from-to.false }
