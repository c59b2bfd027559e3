-- `compute_scores::score_transitions` meets its contract. The loop's invariant: the label lists before this one are added. Assumes nothing.
use Prim.Native.Nat.{◌<◌}
use native.Mathlib.Omega.{arith}
use lib.Ieee.{of_bits}
use Rattle.lines.specs.Scored.{transition_entry_of}
use Rattle.lines.proofs.Laws.{through_none, through_next}
use Rattle.lines.proofs.Spans.{span_sound, list_turn}
use Rattle.compute_scores.proofs.TransitionTurns.{labels_end}
use Rattle.compute_scores.proofs.score_transitions.Goals.{In-loop-label}
use Rattle.compute_scores.proofs.score_transitions.Goals as goal

-- a label in a turn has a list
listed : (c : In-loop-label) → c.loop-label.label < c.args.lists
listed c = omega (arith, c.loop-label-test.true, c.min-label-end.ensures)

pub loop-label-init : goal.loop-label-init
loop-label-init c = through_none _ _ _

pub score_label-requires : goal.score_label-requires
score_label-requires c =
    record { sound_transitions = c.requires.sound_transitions; sound_span = rw c.list_span-span.ensures (span_sound c.requires.sound_lists _); labels_in_bounds = omega (arith, c.requires.labels_in_bounds, c.fill.auto) }

pub loop-label-preserved : goal.loop-label-preserved
unfolding transition_entry_of
loop-label-preserved c =
    through_next _ _ _ c.loop-label.invariant (list_turn _ c.args.lists c.args.starts.now c.loop-label.label _ (listed (goal.at.loop-label-preserved c).In-loop-label) c.list_span-span.ensures c.score_label.ensures)

pub returns : goal.returns
unfolding of_bits
returns c =
    λ rest.
    labels_end _ _ _ _ _ c.requires.sound_transitions c.requires.sound_lists c.min-label-end.ensures c.loop-label.auto.label-end c.loop-label-test.false c.fill.ensures c.loop-label.invariant
