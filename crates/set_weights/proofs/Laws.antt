-- What the check of new weights gives a call that accepts them. Assumes nothing.
use Rattle.std.specs.Prelude.{Ok, Err}
use mathlib.Core.Path.{◌≡◌, sym, ◌∙◌}
use mathlib.Core.List.{List, ◌∷◌, ◌++◌}
use Prim.Native.Nat.{ℕ, ◌≤◌}
use lib.ListN.{length, take, drop}
use lib.Ieee.{Float}
use Rattle.refusals.specs.declared.Refusal.{Refusal}
use lib.Dec.{ltb}
use mathlib.Core.Bool.{◌||◌}
use borrow.Author.Tests.{ltb-false}
use Rattle.refusals.specs.Refusals.{Checked, refuse}
use Rattle.refusals.proofs.Laws.{all_accepted, passes, neither}
use Rattle.refusal_rows.specs.Limits.{two}
use Rattle.refusal_rows.specs.Tests.{checks}
use Rattle.refusal_rows.proofs.Means.{two_means}
use Rattle.set_weights.specs.SetWeights.{Setting, new_counts, new_rooms, new_tests, new_checked, answer_to, weights_after, WeightsSet}

-- 2 of the rooms accepts: the new weights are long enough
pub long_enough : {new : ℕ} (have : ℕ) {n : ℕ} {r : Checked} → r ≡ refuse 2 0 (ltb new n || ltb have n) → r ≡ Ok tt → n ≤ new
long_enough {new} have {n} e h = ltb-false new n (neither (ltb new n) (ltb have n) (passes 2 0 _ (sym e ∙ h))).0

module _ (given : Setting) (have : ℕ) where
  -- an answer that accepts new weights: both tables have room
  pub room_for_new : (r : Checked) → r ≡ new_checked given have → r ≡ Ok tt → (given.features ≤ length given.new) × (given.features ≤ have)
  unfolding new_checked
  room_for_new r e h =
      let a = (all_accepted (Ok tt) (two (new_counts given) ∷ two (new_rooms given have) ∷ checks (new_tests given)) (sym e ∙ h)).1 in
      let w = (two_means (new_rooms given have)).accepted.0 a.1.0 in
      (w.0, w.1.0)

module _ (given : Setting) (before : List Float) (r : Checked) where
  -- a call that is refused keeps its promise by leaving the table alone
  pub kept : (why : Refusal) → r ≡ new_checked given (length before) → r ≡ Err why → WeightsSet given before (record { answer = Err why; weights = before })
  unfolding answer_to weights_after
  kept why e h = let q = sym e ∙ h in record { answers = rw q; weights = rw q }

  -- a call that is accepted keeps it by filling the front
  pub filled : (after : List Float) → r ≡ new_checked given (length before) → r ≡ Ok tt → after ≡ take given.features given.new ++ drop given.features before →
      WeightsSet given before (record { answer = (Ok tt); weights = after })
  unfolding answer_to weights_after
  filled after e h f = let q = sym e ∙ h in record { answers = rw q; weights = rw q f }
