-- `byte_buffers::put_bytes` meets its contract. Assumes nothing.
use Rattle.byte_buffers.proofs.Onto.{onto_starts, onto_as, onto_room, onto_byte, onto_over, part_next, part_over}
use Rattle.byte_buffers.proofs.put_bytes.Goals as goal

pub loop-i-init : goal.loop-i-init
loop-i-init c = onto_starts c.requires.room_for

pub bounds-buffer-k : goal.bounds-buffer-k
bounds-buffer-k c = onto_room (onto_as (part_next _ _ _ c.loop-i-test.true c.requires.from_le_to.1) c.loop-i.invariant)

pub loop-i-preserved : goal.loop-i-preserved
loop-i-preserved c = onto_byte (onto_as (part_next _ _ _ c.loop-i-test.true c.requires.from_le_to.1) c.loop-i.invariant)

pub returns : goal.returns
returns c = onto_over (onto_as (part_over _ _ _ (c.loop-i.auto.i-end c.requires.from_le_to.0) c.loop-i-test.false) c.loop-i.invariant)
