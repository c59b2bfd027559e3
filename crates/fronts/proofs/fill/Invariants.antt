-- `fronts::fill` meets its contract: each place passed has the value. Assumes nothing.
use mathlib.Core.Path.{◌≡◌}
use Rattle.fronts.specs.Cleared.{cleared}
use Rattle.fronts.proofs.fill.Given as goal

abbrev pub invariant-loop-entry : goal.invariant-loop-entry
invariant-loop-entry g l = l.entry-items ≡ cleared l.fn.value l.entry-index l.initial.entry-items
