-- `byte_buffers::put_bytes` meets its contract. Assumes nothing.
use lib.Seq.{slice}
use Rattle.byte_buffers.proofs.Onto.{Onto}
use Rattle.byte_buffers.proofs.put_bytes.Given as goal

abbrev pub invariant-loop-i : goal.invariant-loop-i
invariant-loop-i l = Onto (slice l.i l.to l.bytes) (slice l.from l.to l.bytes) l.k l.at l.buffer l.initial.buffer
