-- `text_writing::labels_length` meets its contract. Assumes nothing.
use mathlib.Core.Path.{◌∙◌}
use native.Mathlib.Omega.{arith}
use Rattle.text_writing.proofs.Lengths.{summed_starts, summed_more, same_name}
use Rattle.text_writing.proofs.labels_length.Goals as goal

pub loop-w-init : goal.loop-w-init
loop-w-init c = summed_starts _ _ _

pub loop-w-preserved : goal.loop-w-preserved
loop-w-preserved c =
    let e = c.name_length.ensures.value ∙ same_name _ c.at-label.ensures in
    summed_more c.loop-w.invariant c.loop-w-test.true (omega (arith, e)) (omega (arith, c.name_length.ensures.upper_bound))
