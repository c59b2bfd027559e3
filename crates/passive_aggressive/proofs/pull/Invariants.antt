-- `passive_aggressive::pull` meets its contract: the loop is a pass of `pulled`, and the flag the finite test of what it left. Assumes nothing.
use Rattle.training.specs.Rules.{pulled}
use Rattle.training_tables.specs.Tables.{Moved}
use Rattle.passive_aggressive.proofs.pull.Given as goal

abbrev pub invariant-loop-i : goal.invariant-loop-i
invariant-loop-i l =
    Moved l.i (pulled l.truly l.predicted l.averaging l.tau l.counter) (record { weights = l.initial.weights; beside = l.initial.sums }) (record { weights = l.weights; beside = l.sums }) l.all
