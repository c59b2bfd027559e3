-- `compute_scores::score_word` meets its contract. The loop's invariant: the attributes before this one are scored, and this one and the places of its list are at hand. Assumes nothing.
use native.Mathlib.Omega.{arith}
use Rattle.lines.specs.Scored.{state_entry_of}
use Rattle.lines.proofs.Laws.{between_nothing, passed_none, passed_next, passed_end}
use Rattle.lines.proofs.Spans.{span_sound}
use Rattle.compute_scores.proofs.StateTurns.{scored_turn}
use Rattle.compute_scores.proofs.score_word.Goals as goal

pub loop-a-init : goal.loop-a-init
loop-a-init c = (passed_none _ _ _, c.attribute_before-attribute.ensures, c.attribute_span-span.ensures)

pub score_attribute-requires : goal.score_attribute-requires
score_attribute-requires c =
    record { sound_states = c.requires.sound_states; sound_span = rw c.loop-a.invariant.2 (span_sound c.requires.sound_lists _); labels_in_bounds = omega (arith, c.requires.labels_in_bounds) }

pub loop-a-preserved : goal.loop-a-preserved
unfolding state_entry_of
loop-a-preserved c =
    let h = c.loop-a-test.true in (
      passed_next c.loop-a.invariant.0 h (scored_turn _ _ _ _ _ _ _ h c.loop-a.invariant.1 c.loop-a.invariant.2 c.score_attribute.ensures),
      c.attribute_before-next.ensures,
      c.attribute_span-ahead.ensures,
    )

pub returns-after-loop-a : goal.returns-after-loop-a
returns-after-loop-a c = passed_end c.loop-a.invariant.0 c.loop-a-test.false

pub returns-else-from-to : goal.returns-else-from-to
returns-else-from-to c = between_nothing _ _ _ _ c.if-from-to.false
