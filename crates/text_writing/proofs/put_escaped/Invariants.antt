-- `text_writing::put_escaped` meets its contract. Assumes nothing.
use lib.ListN.{drop}
use Rattle.layout.specs.Layout.{escaped}
use Rattle.byte_buffers.proofs.Onto.{Onto}
use Rattle.text_writing.proofs.put_escaped.Given as goal

abbrev pub invariant-loop-b : goal.invariant-loop-b
invariant-loop-b l = Onto (escaped (drop l.b-index l.b-items)) (escaped l.b-items) l.k l.at l.text l.initial.text
