-- `parameters::is_not_above_zero` meets its contract. Assumes nothing.
use Rattle.lines.proofs.Literals.{literal_nought}
use Rattle.parameters.proofs.is_not_above_zero.Goals as goal

pub returns : goal.returns
returns c = rw (c.is_finite.ensures, literal_nought)
