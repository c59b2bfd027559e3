-- `training_tables::count_up` meets its contract: each place passed has its own place. Assumes nothing.
use mathlib.Core.Path.{◌≡◌}
use Rattle.training.specs.Epochs.{up_to}
use Rattle.fronts.proofs.Filled.{filled}
use Rattle.training_tables.proofs.count_up.Given as goal

abbrev pub invariant-loop-i : goal.invariant-loop-i
invariant-loop-i l = l.order ≡ filled l.initial.order (up_to l.n) l.i
