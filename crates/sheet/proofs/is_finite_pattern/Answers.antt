-- `sheet::is_finite_pattern` meets its contract. Assumes nothing.
use mathlib.Core.Path.{sym}
use Rattle.binary64.proofs.Finite.{of_pattern}
use Rattle.sheet.proofs.is_finite_pattern.Goals as goal

pub returns : goal.returns
returns c = sym (of_pattern _)
