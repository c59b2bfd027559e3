-- `line_counts::count_transitions` meets its contract. The loop's invariant: the words before this one have counted. Assumes nothing.
use native.Mathlib.Omega.{arith}
use Rattle.lines.specs.Counted.{transition_count_of}
use Rattle.lines.proofs.Laws.{passed_none, passed_next}
use Rattle.lines.proofs.Spans.{span_sound}
use Rattle.line_counts.proofs.TransitionTurns.{transition_turn}
use Rattle.line_counts.proofs.count_transitions.Goals as goal

pub loop-word-init : goal.loop-word-init
loop-word-init c = passed_none _ _ _

pub count_label-requires : goal.count_label-requires
count_label-requires c =
    record { sound_counts = c.requires.sound_counts; features_in_bounds = c.requires.features_in_bounds; sound_span = rw c.list_span-span.ensures (span_sound c.requires.sound_lists _); features_in_bounds_2 = omega (arith, c.requires.features_in_bounds_2) }

pub loop-word-preserved : goal.loop-word-preserved
unfolding transition_count_of
loop-word-preserved c =
    passed_next c.loop-word.invariant c.loop-word-test.true (transition_turn _ _ _ _ c.list_span-span.ensures c.count_label.ensures)
