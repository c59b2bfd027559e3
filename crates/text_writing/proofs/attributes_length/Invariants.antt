-- `text_writing::attributes_length` meets its contract. Assumes nothing.
use Rattle.text_writing.specs.Ready.{strings}
use Rattle.text_writing.specs.Sums.{attribute_size}
use Rattle.text_writing.proofs.Lengths.{Summed}
use Rattle.text_writing.proofs.attributes_length.Given as goal

abbrev pub invariant-loop-a : goal.invariant-loop-a
invariant-loop-a l = Summed (attribute_size l.ids (strings l.name_starts l.names) (strings l.scale_starts l.scales)) 12884901887 l.attributes l.a l.total
