-- `text_writing::put_sequences` meets its contract. Assumes nothing.
use Prim.Native.Nat.{◌-◌}
use Rattle.text_writing.specs.Ready.{strings, lent_tables, sequence_bytes, each_from}
use Rattle.byte_buffers.proofs.Onto.{Onto}
use Rattle.text_writing.proofs.put_sequences.Given as goal

abbrev pub invariant-loop-i : goal.invariant-loop-i
invariant-loop-i l =
    let t = lent_tables l.instances l.lines l.begins l.ids l.references (strings l.label_starts l.labels) (strings l.name_starts l.names) (strings l.scale_starts l.scales) in
    Onto (each_from (sequence_bytes t) l.i (l.instances - l.i)) (each_from (sequence_bytes t) 0 l.instances) l.k 0 l.text l.initial.text
