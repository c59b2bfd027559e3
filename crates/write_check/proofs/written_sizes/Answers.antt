-- `write_check::written_sizes` meets its contract. Assumes nothing.
use Rattle.write_check.proofs.Laws.{rooms_last}
use Rattle.write_check.proofs.written_sizes.Goals as goal

pub returns : goal.returns
returns c =
    rooms_last _ c.check_labels.ensures c.in_ok-check_labels.was (rw c.exceeds_written.ensures at c.refuse_if.ensures) c.in_ok-refuse_if.was (rw (c.lacks_strings-strings.ensures, c.lacks_words-words.ensures) at c.refuse_if-2.ensures)
