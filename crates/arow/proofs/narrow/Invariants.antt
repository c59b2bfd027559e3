-- `arow::narrow` meets its contract: the loop is a pass of `narrowed`, and the flag the finite test of what it stored. Assumes nothing.
use Rattle.training.specs.Rules.{narrowed}
use Rattle.training_tables.specs.Tables.{Moved}
use Rattle.arow.proofs.narrow.Given as goal

abbrev pub invariant-loop-i : goal.invariant-loop-i
invariant-loop-i l =
    Moved l.i (narrowed l.truly l.predicted l.weight l.gamma l.alpha) (record { weights = l.initial.weights; beside = l.initial.covariance }) (record { weights = l.weights; beside = l.covariance }) l.all
