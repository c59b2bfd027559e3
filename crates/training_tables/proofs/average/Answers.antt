-- `training_tables::average` meets its contract: the loop is a pass of `averaged_at`, and the flag the finite test of what it stored. Assumes nothing.
use mathlib.Core.Path.{refl}
use borrow.Author.Rules.{rules}
use Rattle.training.specs.Rules.{averaged_at}
use Rattle.lines.proofs.Laws.{through_none, through_next}
use Rattle.fronts.proofs.Finite.{finite_none, finite_stored, flag_next}
use Rattle.training_tables.proofs.average.Goals as goal

pub loop-i-init : goal.loop-i-init
loop-i-init c = record { weights = through_none _ _ _; finite = finite_none _ }

pub loop-i-preserved : goal.loop-i-preserved
unfolding averaged_at
loop-i-preserved c = record {
  weights = through_next _ _ _ c.loop-i.invariant.weights refl;
  finite = flag_next c.loop-i.invariant.finite c.is_finite-all.ensures (finite_stored _ _ _ (search rules));
}
