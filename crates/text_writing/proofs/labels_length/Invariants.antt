-- `text_writing::labels_length` meets its contract. Assumes nothing.
use Rattle.text_writing.specs.Ready.{strings}
use Rattle.text_writing.specs.Sums.{label_bytes_of}
use Rattle.text_writing.proofs.Lengths.{Summed}
use Rattle.text_writing.proofs.labels_length.Given as goal

abbrev pub invariant-loop-w : goal.invariant-loop-w
invariant-loop-w l = Summed (label_bytes_of l.references (strings l.starts l.bytes)) 8589934591 l.words l.w l.total
