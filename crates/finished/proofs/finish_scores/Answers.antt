-- `finished::finish_scores` meets its contract. Assumes nothing.
use Rattle.std.specs.Prelude.{Err}
use mathlib.Core.Path.{refl, sym, ◌∙◌}
use native.Mathlib.Omega.{arith}
use lib.Ieee.{of_bits}
use Rattle.finished.proofs.Laws.{cleared_to}
use Rattle.finished.proofs.finish_scores.Goals as goal

pub check_scores-requires : goal.check_scores-requires
check_scores-requires c = c.requires

pub fill-requires : goal.fill-requires
fill-requires c =
    omega (arith, c.entries.ensures, c.requires.room.long_states)

pub fill-requires-in-Err : goal.fill-requires-in-Err
fill-requires-in-Err c =
    omega (arith, c.entries-in-Err.ensures, c.requires.room.long_transitions)

pub returns-in-Err : goal.returns-in-Err
unfolding of_bits
returns-in-Err c =
    record { value = sym c.in-Err.is ∙ c.check_scores.ensures; transitions_after = cleared_to _ _ c.entries-in-Err.ensures c.fill-in-Err.ensures; states_after = cleared_to _ _ c.entries.ensures c.fill.ensures }

pub returns : goal.returns
returns c = record { value = sym c.in_default.is ∙ c.check_scores.ensures; transitions_after = refl; states_after = refl }
