-- `text_writing::put_attributes` meets its contract. Assumes nothing.
use Rattle.byte_buffers.proofs.Onto.{onto_as, onto_part, onto_put, onto_over}
use Rattle.text_writing.proofs.Laws.{each_first, each_over}
use Rattle.text_writing.proofs.put_attributes.Goals as goal

pub put_attribute-k-requires-clause-room_for : goal.put_attribute-k-requires-clause-room_for
put_attribute-k-requires-clause-room_for c =
    let g = onto_as (each_first _ _ _ c.loop-a-test.true) c.loop-a.invariant in
    onto_part _ _ g

pub loop-a-preserved : goal.loop-a-preserved
loop-a-preserved c =
    let g = onto_as (each_first _ _ _ c.loop-a-test.true) c.loop-a.invariant in
    onto_put _ _ c.put_attribute-k.ensures g

pub returns : goal.returns
returns c =
    onto_over (onto_as (each_over _ _ _ c.loop-a-test.false) c.loop-a.invariant)
