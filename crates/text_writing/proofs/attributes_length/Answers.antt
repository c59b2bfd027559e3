-- `text_writing::attributes_length` meets its contract. Assumes nothing.
use Rattle.text_writing.proofs.Lengths.{summed_starts, summed_more}
use Rattle.text_writing.proofs.attributes_length.Goals as goal

pub loop-a-init : goal.loop-a-init
loop-a-init c = summed_starts _ _ _

pub loop-a-preserved : goal.loop-a-preserved
loop-a-preserved c =
    summed_more c.loop-a.invariant c.loop-a-test.true c.attribute_length-total.ensures.value c.attribute_length-total.ensures.upper_bound
