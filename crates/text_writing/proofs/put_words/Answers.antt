-- `text_writing::put_words` meets its contract. Assumes nothing.
use Rattle.byte_buffers.proofs.Onto.{onto_as, onto_part, onto_put, onto_over}
use Rattle.text_writing.proofs.Laws.{each_first, each_over}
use Rattle.text_writing.proofs.put_words.Goals as goal

pub put_word-k-requires-clause-room_for : goal.put_word-k-requires-clause-room_for
put_word-k-requires-clause-room_for c =
    let g = onto_as (each_first _ _ _ c.loop-w-test.true) c.loop-w.invariant in
    onto_part _ _ g

pub loop-w-preserved : goal.loop-w-preserved
loop-w-preserved c =
    let g = onto_as (each_first _ _ _ c.loop-w-test.true) c.loop-w.invariant in
    onto_put _ _ c.put_word-k.ensures g

pub returns : goal.returns
returns c =
    onto_over (onto_as (each_over _ _ _ c.loop-w-test.false) c.loop-w.invariant)
