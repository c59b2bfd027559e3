-- `finished::check_scores` meets its contract. Assumes nothing.
use native.Mathlib.Omega.{arith}
use Rattle.finished.proofs.check_scores.Goals as goal

pub check_finished-requires : goal.check_finished-requires
check_finished-requires c = record { n_in_bounds = omega (arith, c.requires); others_bound = omega (arith, c.requires) }

pub check_finished-requires-2 : goal.check_finished-requires-2
check_finished-requires-2 c = record { n_in_bounds = omega (arith, c.requires); others_bound = omega (arith, c.requires) }
