-- `fold_previous` meets its contract. The loop's invariant: the labels passed have taken their candidate or not, and the others are as they were. Assumes nothing.
use mathlib.Core.Path.{◌∙◌}
use lib.Ieee.{nan}
use Rattle.viterbi_steps.proofs.Written.{written_none, front_more, front_later, written_end}
use Rattle.viterbi_steps.proofs.fold_previous.Goals as goal

pub loop-label-init : goal.loop-label-init
loop-label-init c = (written_none _ _ _, written_none _ _ _)

pub loop-label-preserved : goal.loop-label-preserved
loop-label-preserved c =
    let a = c.args in
    let score = front_later _ a.next.now nan c.loop-label.label c.loop-label.next c.loop-label.invariant.0 in
    let mark = front_later _ a.from.now 0 c.loop-label.label c.loop-label.from c.loop-label.invariant.1 in (
      front_more _ _ c.loop-label.label c.loop-label.next _ c.loop-label.invariant.0 (c.better.ensures ∙ rw score),
      front_more _ _ c.loop-label.label c.loop-label.from _ c.loop-label.invariant.1 (c.whence.ensures ∙ rw (score, mark)),
    )

pub returns : goal.returns
returns c =
    record { next_after = written_end 0 _ _ _ _ _ c.loop-label.auto.label-end c.loop-label-test.false c.loop-label.invariant.0; from_after = written_end 0 _ _ _ _ _ c.loop-label.auto.label-end c.loop-label-test.false c.loop-label.invariant.1 }
