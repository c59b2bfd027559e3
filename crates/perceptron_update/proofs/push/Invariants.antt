-- `perceptron_update::push` meets its contract: the loop is a pass of `pushed`, and the flag the finite test of what it stored. Assumes nothing.
use Rattle.training.specs.Rules.{pushed}
use Rattle.training_tables.specs.Tables.{Moved}
use Rattle.perceptron_update.proofs.push.Given as goal

abbrev pub invariant-loop-i : goal.invariant-loop-i
invariant-loop-i l =
    Moved l.i (pushed l.truly l.predicted l.weight l.counter) (record { weights = l.initial.weights; beside = l.initial.sums }) (record { weights = l.weights; beside = l.sums }) l.all
