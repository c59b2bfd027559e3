-- `one_epoch::epoch` meets its contract: after j visits the state is the definition's, and a refused visit ends both. Assumes nothing.
use mathlib.Core.Path.{◌≡◌}
use mathlib.Core.Bool.{false}
use Prim.Native.Nat.{◌+◌, ◌≤◌}
use Rattle.lines.specs.Passes.{through}
use Rattle.training.specs.Visits.{visited}
use Rattle.training.specs.Epochs.{is_refused, visited_at}
use Rattle.prediction.specs.Tables.{training_model_of, training_data_of}
use Rattle.parameters.specs.Trainers.{rule_of}
use Rattle.updates.specs.Updating.{state_of}
use Rattle.one_epoch.proofs.epoch.Given as goal

abbrev pub invariant-loop-j : goal.invariant-loop-j
invariant-loop-j l =
    (l.progress.visits ≤ l.initial.progress.visits + l.j)
    × (l.progress.updates ≤ l.progress.visits)
    × (is_refused l.progress.visit ≡ false)
    × (state_of l.progress l.weights l.beside ≡ through (visited_at (visited (rule_of l.trainer) (training_model_of l.sizes l.kinds l.destinations l.sources l.starts l.entries l.label_starts l.label_entries) (training_data_of l.sizes l.lines l.begins l.ids l.values l.references l.shares)) l.order) 0 l.j (state_of l.initial.progress l.initial.weights l.initial.beside))
