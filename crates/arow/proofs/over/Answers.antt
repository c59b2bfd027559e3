-- `arow::over` meets its contract. Assumes nothing.
use mathlib.Core.Path.{sym}
use lib.Ieee.{of_bits}
use Rattle.training_tables.proofs.Rounded.{over_one}
use Rattle.arow.proofs.over.Goals as goal

pub returns-then-gamma : goal.returns-then-gamma
unfolding of_bits
returns-then-gamma c = sym (over_one _ _ c.well_formed.0.1 c.if-gamma.true)
