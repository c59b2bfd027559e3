-- `line_check::lacks_scores` meets its contract. Assumes nothing.
use Rattle.line_check.proofs.lacks_scores.Goals as goal

pub returns : goal.returns
returns c = rw (c.entries.ensures, c.entries-2.ensures)
