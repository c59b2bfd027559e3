-- `epochs::run` meets its contract: after e epochs the run is the definition's, and what ends one ends the other. Assumes nothing.
use mathlib.Core.Path.{◌≡◌}
use mathlib.Core.Bool.{false}
use Prim.Native.Nat.{◌*◌, ◌≤◌}
use Rattle.refusals.specs.Bounds.{the_instances, most}
use Rattle.lines.specs.Passes.{through}
use Rattle.training.specs.Rules.{stops}
use Rattle.training.specs.Visits.{visited}
use Rattle.training.specs.Epochs.{Run, epoch_unless_over}
use Rattle.training.specs.Orders.{OrderOf}
use Rattle.prediction.specs.Tables.{training_model_of, training_data_of}
use Rattle.parameters.specs.Trainers.{rule_of}
use Rattle.updates.specs.Updating.{state_of}
use Rattle.epochs.proofs.run.Given as goal

abbrev pub invariant-loop-e : goal.invariant-loop-e
invariant-loop-e l =
    (l.progress.visits ≤ l.e * most the_instances)
    × (l.progress.updates ≤ l.progress.visits)
    × OrderOf l.sizes.instances l.order
    × (◌≡◌ {A = Run} (record { state = state_of l.progress l.weights l.beside; deal = record { state = l.g; order = l.order }; epochs = l.e; over = false }) (through (epoch_unless_over (visited (rule_of l.trainer) (training_model_of l.sizes l.kinds l.destinations l.sources l.starts l.entries l.label_starts l.label_entries) (training_data_of l.sizes l.lines l.begins l.ids l.values l.references l.shares)) (stops (rule_of l.trainer) l.epsilon) l.sizes.instances) 0 l.e (record { state = state_of l.initial.progress l.initial.weights l.initial.beside; deal = record { state = l.seed; order = l.initial.order }; epochs = 0; over = false })))
