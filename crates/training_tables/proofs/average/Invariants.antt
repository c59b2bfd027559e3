-- `training_tables::average` meets its contract: the loop is a pass of `averaged_at`, and the flag the finite test of what it stored. Assumes nothing.
use Rattle.training_tables.specs.Tables.{Averaged}
use Rattle.training_tables.proofs.average.Given as goal

abbrev pub invariant-loop-i : goal.invariant-loop-i
invariant-loop-i l = Averaged l.i l.counter l.sums l.initial.weights l.weights l.all
