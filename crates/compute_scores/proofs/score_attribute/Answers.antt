-- `compute_scores::score_attribute` meets its contract. The loop's invariant: the entries before this one are added. Assumes nothing.
use native.Mathlib.Omega.{arith}
use Rattle.lines.proofs.Laws.{passed_none, passed_next, passed_end}
use Rattle.compute_scores.proofs.score_attribute.Goals as goal

pub loop-e-init : goal.loop-e-init
loop-e-init c = passed_none _ _ _

pub state_entry-requires : goal.state_entry-requires
state_entry-requires c =
    let h = c.loop-e-test.true in
    record { sound_states = c.requires.sound_states; e_in_bounds = omega (arith, c.requires.sound_span.within); e_bound = c.requires.sound_span.ids _ h; labels_in_bounds = omega (arith, c.requires.labels_in_bounds) }

pub loop-e-preserved : goal.loop-e-preserved
loop-e-preserved c =
    passed_next c.loop-e.invariant c.loop-e-test.true c.state_entry.ensures

pub returns : goal.returns
returns c = passed_end c.loop-e.invariant c.loop-e-test.false
