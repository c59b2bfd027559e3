-- `binary64::are_finite` meets its contract. Assumes nothing.
use Rattle.binary64.proofs.Itself.{two_finite}
use Rattle.binary64.proofs.are_finite.Goals as goal

pub returns : goal.returns
returns c = two_finite c.args.x c.args.y
