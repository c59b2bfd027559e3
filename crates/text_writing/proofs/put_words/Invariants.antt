-- `text_writing::put_words` meets its contract. Assumes nothing.
use Prim.Native.Nat.{◌-◌}
use Rattle.text_writing.specs.Ready.{strings, word_tables, word_bytes, each_from}
use Rattle.byte_buffers.proofs.Onto.{Onto}
use Rattle.text_writing.proofs.put_words.Given as goal

abbrev pub invariant-loop-w : goal.invariant-loop-w
invariant-loop-w l =
    let t = word_tables l.begins l.ids l.references (strings l.label_starts l.labels) (strings l.name_starts l.names) (strings l.scale_starts l.scales) in
    Onto (each_from (word_bytes t) l.w (l.end - l.w)) (each_from (word_bytes t) l.first (l.end - l.first)) l.k l.at l.text l.initial.text
