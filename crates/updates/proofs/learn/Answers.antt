-- `updates::learn` meets its contract: the update is held, or 9, or 8 for the counts. Assumes nothing.
use mathlib.Core.Path.{refl, sym, ◌∙◌}
use Prim.Native.Nat.{◌+◌}
use native.Mathlib.Omega.{arith}
use borrow.Author.Rules.{rules}
use lib.Dec.{le→leb}
use lib.Ieee.{in_float}
use Rattle.fronts.proofs.Finite.{flag_next}
use Rattle.updates.proofs.Laws.{held, not_held, not_counted, refused_counted}
use Rattle.updates.proofs.learn.Goals as goal

pub int_to_float-counter : goal.int_to_float-counter
unfolding in_float
int_to_float-counter c =
    le→leb (c.args.s.visits + 1) 9007199254740992 (omega (arith, c.requires.visits_bound))

pub returns-then-holds : goal.returns-then-holds
returns-then-holds c =
    record { fact = held _ _ _ _ c.update-outcome.ensures (sym c.holds.ensures ∙ c.if-holds.true); visit_counted = record { visits = omega arith; updates = omega (arith, c.requires.visits_bound) } }

pub returns-then-all_finite : goal.returns-then-all_finite
returns-then-all_finite c =
    let made = c.refuse.ensures in record { fact = not_held _ _ _ _ c.update-outcome.ensures (sym c.holds.ensures ∙ c.if-holds.false) (sym (flag_next c.all_finite.ensures c.all_finite-2.ensures refl) ∙ c.if-all_finite.true) (made _); visit_counted = refused_counted 9 _ _ made c.requires.visits_bound.1 }

pub returns-else-all_finite : goal.returns-else-all_finite
returns-else-all_finite c =
    let made = c.refuse-else-all_finite.ensures in record { fact = not_counted _ _ _ _ (sym (flag_next c.all_finite.ensures c.all_finite-2.ensures refl) ∙ c.if-all_finite.false) (made _); visit_counted = refused_counted 8 _ _ made c.requires.visits_bound.1 }
