-- `finished::finish_counts` meets its contract. Assumes nothing.
use Rattle.std.specs.Prelude.{Err}
use mathlib.Core.Path.{refl, sym, ◌∙◌}
use native.Mathlib.Omega.{arith}
use lib.Ieee.{of_bits}
use Rattle.finished.proofs.Laws.{placed_first}
use Rattle.finished.proofs.finish_counts.Goals as goal

pub check_finished-requires : goal.check_finished-requires
check_finished-requires c = record { n_in_bounds = c.requires; others_bound = omega arith }

pub returns-in-Err : goal.returns-in-Err
unfolding of_bits
returns-in-Err c =
    record { value = sym c.in-Err.is ∙ c.check_finished.ensures ∙ placed_first _; counts_after = c.fill.ensures }

pub returns : goal.returns
returns c = record { value = sym c.in_default.is ∙ c.check_finished.ensures ∙ placed_first _; counts_after = refl }
