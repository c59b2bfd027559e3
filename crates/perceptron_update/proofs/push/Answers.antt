-- `perceptron_update::push` meets its contract: the loop is a pass of `pushed`, and the flag the finite test of what it stored. Assumes nothing.
use mathlib.Core.Path.{refl}
use borrow.Author.Rules.{rules}
use Rattle.lines.specs.Passes.{raised}
use Rattle.training.specs.Rules.{pushed}
use Rattle.fronts.proofs.Finite.{finite_stored}
use Rattle.training_tables.proofs.Moves.{moved_none, moved_next}
use Rattle.perceptron_update.proofs.push.Goals as goal

pub loop-i-init : goal.loop-i-init
loop-i-init c = moved_none _ _

pub loop-i-preserved : goal.loop-i-preserved
unfolding pushed raised
loop-i-preserved c =
    moved_next _ _ _ _ _ c.loop-i.invariant refl c.are_finite-all.ensures (finite_stored _ _ _ (search rules)) (finite_stored _ _ _ (search rules))
