-- `text_writing::put_attributes` meets its contract. Assumes nothing.
use Prim.Native.Nat.{◌-◌}
use Rattle.text_writing.specs.Ready.{strings, attribute_bytes, each_from}
use Rattle.byte_buffers.proofs.Onto.{Onto}
use Rattle.text_writing.proofs.put_attributes.Given as goal

abbrev pub invariant-loop-a : goal.invariant-loop-a
invariant-loop-a l =
    let f = attribute_bytes l.ids (strings l.name_starts l.names) (strings l.scale_starts l.scales) in
    Onto (each_from f l.a (l.end - l.a)) (each_from f l.first (l.end - l.first)) l.k l.at l.text l.initial.text
