-- `lead_by` meets its contract. Assumes nothing.
use mathlib.Core.Path.{ap}
use Rattle.best_path.specs.Lead.{by, lead_between}
use Rattle.viterbi_end.proofs.lead_by.Goals as goal

pub returns-then-is_finite : goal.returns-then-is_finite
unfolding lead_between
returns-then-is_finite c = rw (← c.is_finite.ensures, ← c.is_finite-2.ensures, c.if-is_finite.true) (ap by c.positive_zero.ensures)

pub returns-else-is_finite : goal.returns-else-is_finite
unfolding lead_between
returns-else-is_finite c = rw (← c.is_finite.ensures, ← c.is_finite-2.ensures, c.if-is_finite.false)
