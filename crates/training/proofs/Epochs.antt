-- Laws of an epoch's visits and of a run's epochs, for the loops that make them, whatever a visit is. Assumes nothing.
use mathlib.Core.Path.{◌≡◌, sym, ap, ◌∙◌}
use mathlib.Core.Bool.{Bool, true, false}
use mathlib.Core.List.{List}
use Prim.Native.Nat.{ℕ, zero, suc, ◌+◌, ◌-◌, ◌≤◌}
use native.Mathlib.Nat.{zero-add, suc-add}
use native.Mathlib.Omega.{arith}
use lib.ListN.{get_or}
use lib.Ieee.{Float}
use Rattle.lines.specs.Passes.{through}
use Rattle.lines.proofs.Laws.{through_next, through_end}
use Rattle.shuffle.specs.Shuffle.{Deal, shuffled}
use Rattle.training.specs.Visits.{TrainingState}
use Rattle.training.specs.Epochs.{Run, is_refused, ends_after, opened, visited_at, epoch_over, epoch, epoch_unless_over}

-- ---- a step that changes nothing from some point on
module _ {S : Type 0} (step : ℕ → S → S) where
  stays : (n k : ℕ) (s : S) → ((j : ℕ) → step j (through step 0 n s) ≡ through step 0 n s) → through step 0 (k + n) s ≡ through step 0 n s
  unfolding through
  stays n zero s h = rw zero-add
  stays n (suc k) s h = ap (λ (z : ℕ). through step 0 z s) (suc-add k n) ∙ ap (step (0 + (k + n))) (stays n k s h) ∙ h (0 + (k + n))

  pub through_stayed : (i n : ℕ) (s : S) → i ≤ n → ((j : ℕ) → step j (through step 0 i s) ≡ through step 0 i s) → through step 0 n s ≡ through step 0 i s
  through_stayed i n s p h =
      let e : n ≡ n - i + i = omega arith in
      ap (λ (z : ℕ). through step 0 z s) e ∙ stays i (n - i) s h

-- ---- a loop over an epoch's visits
module _ (visit : ℕ → TrainingState → TrainingState) (order : List ℕ) where
  pub visit_made : (j : ℕ) (s : TrainingState) → is_refused s.progress.visit ≡ false → visited_at visit order j s ≡ visit (get_or order j 0) s
  unfolding visited_at
  visit_made j s e = rw e

  pub visit_left_out : (j : ℕ) (s : TrainingState) → is_refused s.progress.visit ≡ true → visited_at visit order j s ≡ s
  unfolding visited_at
  visit_left_out j s e = rw e

  -- one visit more: t is the state before it, and u after it
  pub epoch_next : (j i : ℕ) (s : TrainingState) {t u : TrainingState} → i ≡ get_or order j 0 → is_refused t.progress.visit ≡ false → t ≡ through (visited_at visit order) 0 j s → u ≡ visit i t → u ≡ through (visited_at visit order) 0 (j + 1) s
  epoch_next j i s {t} k r p q = through_next (visited_at visit order) j s p (q ∙ ap (λ (z : ℕ). visit z t) k ∙ sym (visit_made j t r))

  -- every instance was visited
  pub epoch_end : (j n : ℕ) (s : TrainingState) {u : TrainingState} → j ≤ n → n ≤ j → u ≡ through (visited_at visit order) 0 j (opened s) → u ≡ epoch_over visit order n s
  unfolding epoch_over
  epoch_end j n s a b p = p ∙ through_end (visited_at visit order) j n (opened s) a b

  -- a visit was refused, and no later one is made
  pub epoch_cut : (j n : ℕ) (s : TrainingState) {u : TrainingState} → j ≤ n → is_refused u.progress.visit ≡ true → u ≡ through (visited_at visit order) 0 j (opened s) → u ≡ epoch_over visit order n s
  unfolding epoch_over
  epoch_cut j n s {u} h r p =
      let e : is_refused (through (visited_at visit order) 0 j (opened s)).progress.visit ≡ true = ap (λ (x : TrainingState). is_refused x.progress.visit) (sym p) ∙ r in
      p ∙ sym (through_stayed (visited_at visit order) j n (opened s) h (λ k. visit_left_out k (through (visited_at visit order) 0 j (opened s)) e))

-- ---- a loop over epochs
module _ (visit : ℕ → TrainingState → TrainingState) (stop : Float → Bool) (instances : ℕ) where
  pub epoch_run : (e : ℕ) (t : Run) → t.over ≡ false → epoch_unless_over visit stop instances e t ≡ epoch visit stop instances t
  unfolding epoch_unless_over
  epoch_run e t o = rw o

  pub epoch_left_out : (e : ℕ) (t : Run) → t.over ≡ true → epoch_unless_over visit stop instances e t ≡ t
  unfolding epoch_unless_over
  epoch_left_out e t o = rw o

  -- an epoch from its parts: the deal, the visits, and whether training ends
  pub epoch_made : (r : Run) (k : Deal) (s : TrainingState) (o : Bool) → k ≡ shuffled instances r.deal → s ≡ epoch_over visit k.order instances r.state → o ≡ ends_after stop instances s.progress → ◌≡◌ {A = Run} (record { state = s; deal = k; epochs = r.epochs + 1; over = o }) (epoch visit stop instances r)
  unfolding epoch
  epoch_made r k s o a b c = rw (c, b, a)

  pub run_next : (e : ℕ) (r : Run) {t u : Run} → t.over ≡ false → t ≡ through (epoch_unless_over visit stop instances) 0 e r → u ≡ epoch visit stop instances t → u ≡ through (epoch_unless_over visit stop instances) 0 (e + 1) r
  run_next e r {t} o p q = through_next (epoch_unless_over visit stop instances) e r p (q ∙ sym (epoch_run e t o))

  -- training ended, and no later epoch is run
  pub run_cut : (e n : ℕ) (r : Run) {u : Run} → e ≤ n → u.over ≡ true → u ≡ through (epoch_unless_over visit stop instances) 0 e r → u ≡ through (epoch_unless_over visit stop instances) 0 n r
  run_cut e n r {u} h o p =
      let f : (through (epoch_unless_over visit stop instances) 0 e r).over ≡ true = ap (λ (x : Run). x.over) (sym p) ∙ o in
      p ∙ sym (through_stayed (epoch_unless_over visit stop instances) e n r h (λ k. epoch_left_out k (through (epoch_unless_over visit stop instances) 0 e r) f))
