-- `training_tables::count_up` meets its contract: each place passed has its own place. Assumes nothing.
use mathlib.Core.Path.{sym, ◌∙◌}
use borrow.Author.Rules.{rules}
use native.Mathlib.Nat.{zero-add}
use Rattle.training_tables.proofs.Counted.{length_counted, get_d_counted}
use Rattle.fronts.proofs.Filled.{filled_none, filled_next, filled_end}
use Rattle.training_tables.proofs.count_up.Goals as goal

pub loop-i-init : goal.loop-i-init
loop-i-init c = filled_none _ _

pub loop-i-preserved : goal.loop-i-preserved
loop-i-preserved c =
    filled_next _ _ _ 0 _ (search rules) (rw (length_counted) c.loop-i-test.true) c.loop-i.invariant (sym (get_d_counted 0 _ _ c.loop-i-test.true ∙ zero-add _))

pub returns : goal.returns
returns c = c.loop-i.invariant ∙ filled_end _ _ _ _ (length_counted _ _) c.loop-i.auto.i-end c.loop-i-test.false
