-- `arow::narrow` meets its contract: the loop is a pass of `narrowed`, and the flag the finite test of what it stored. Assumes nothing.
use borrow.Author.Rules.{rules}
use lib.Ieee.{of_bits, of_int}
use Rattle.lines.specs.Passes.{raised}
use Rattle.training.specs.Rules.{narrowed}
use Rattle.fronts.proofs.Finite.{finite_stored}
use Rattle.training_tables.proofs.Moves.{moved_none, moved_next}
use Rattle.arow.proofs.narrow.Goals as goal

pub loop-i-init : goal.loop-i-init
loop-i-init c = moved_none _ _

pub loop-i-preserved : goal.loop-i-preserved
unfolding narrowed raised of_bits of_int
loop-i-preserved c =
    moved_next _ _ _ _ _ c.loop-i.invariant (rw c.over.ensures) c.are_finite-all.ensures (finite_stored _ _ _ (search rules)) (finite_stored _ _ _ (search rules))
