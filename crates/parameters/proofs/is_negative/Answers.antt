-- `parameters::is_negative` meets its contract. Assumes nothing.
use Rattle.lines.proofs.Literals.{literal_nought}
use Rattle.parameters.proofs.is_negative.Goals as goal

pub returns : goal.returns
returns c = rw (c.is_finite.ensures, literal_nought)
