-- `first_row` meets its contract. The loop's invariant: the labels passed have their state score. Assumes nothing.
use mathlib.Core.Path.{refl}
use lib.ListN.{replicate}
use lib.Ieee.{of_bits, binary64}
use Rattle.refusals.specs.Bounds.{the_labels, most}
use Rattle.viterbi_steps.proofs.Written.{written_none, front_more, written_end}
use Rattle.viterbi_steps.proofs.first_row.Goals as goal

pub loop-label-init : goal.loop-label-init
loop-label-init c = (refl, written_none 0 _ (replicate (most the_labels) (of_bits binary64 0)))

pub loop-label-preserved : goal.loop-label-preserved
loop-label-preserved c =
    (c.loop-label.invariant.0, front_more _ _ c.loop-label.label c.loop-label.row.best _ c.loop-label.invariant.1 refl)

pub returns : goal.returns
returns c =
    let l = c.loop-label in
    let best = written_end 0 _ _ _ _ _ l.auto.label-end c.loop-label-test.false l.invariant.1 in
    λ i. record { best = best i; width = l.invariant.0 i }
