-- `seed_row` meets its contract. The loop's invariant: the labels passed have their candidate. Assumes nothing.
use native.Mathlib.Nat.{zero-add}
use Rattle.viterbi_steps.proofs.Written.{written_none, front_more, written_end}
use Rattle.viterbi_steps.proofs.seed_row.Goals as goal

pub loop-label-init : goal.loop-label-init
loop-label-init c = written_none _ _ _

pub loop-label-preserved : goal.loop-label-preserved
loop-label-preserved c =
    front_more _ _ c.loop-label.label c.loop-label.next _ c.loop-label.invariant (rw zero-add)

pub returns : goal.returns
returns c = written_end 0 _ _ _ _ _ c.loop-label.auto.label-end c.loop-label-test.false c.loop-label.invariant
