-- A loop over visits, whose turns agree with the definition's up to the tables of a refused visit. Assumes nothing.
use mathlib.Core.Path.{◌≡◌, refl, sym, ap, ◌∙◌, subst}
use mathlib.Core.Bool.{Bool, true, false}
use mathlib.Core.List.{List}
use Prim.Native.Nat.{ℕ, ◌+◌, ◌<◌}
use native.Mathlib.Omega.{arith}
use lib.ListN.{get_or}
use Rattle.lines.specs.Passes.{through}
use Rattle.training.specs.declared.Progress.{Progress}
use Rattle.training.specs.Visits.{TrainingState}
use Rattle.training.specs.Epochs.{is_refused, opened, visited_at, epoch_over}
use Rattle.training.proofs.Epochs.{epoch_next, epoch_cut}
use Rattle.updates.specs.Updating.{Agreed}

-- whether a state's visit was refused can be told by its progress
pub same_end : {made meant : TrainingState} {b : Bool} → Agreed made meant → is_refused made.progress.visit ≡ b → is_refused meant.progress.visit ≡ b
same_end a e = ap (λ (s : Progress). is_refused s.visit) (sym a.progress) ∙ e

-- ---- an epoch's visits
module _ (visit : ℕ → TrainingState → TrainingState) (order : List ℕ) where
  -- one visit more: t is the state before it, u after it
  pub visited_next : (j i : ℕ) (s : TrainingState) {t u : TrainingState} → i ≡ get_or order j 0 → is_refused t.progress.visit ≡ false → t ≡ through (visited_at visit order) 0 j s → Agreed u (visit i t) → is_refused u.progress.visit ≡ false → u ≡ through (visited_at visit order) 0 (j + 1) s
  visited_next j i s k r p a f = epoch_next visit order j i s k r p (a.whole (same_end a f))

  -- it was refused
  pub visited_cut : (j i n : ℕ) (s : TrainingState) {t u : TrainingState} → j < n → i ≡ get_or order j 0 → is_refused t.progress.visit ≡ false → t ≡ through (visited_at visit order) 0 j (opened s) → Agreed u (visit i t) → is_refused u.progress.visit ≡ true → Agreed u (epoch_over visit order n s)
  visited_cut j i n s {t} {u} h k r p a f =
      let e : visit i t ≡ epoch_over visit order n s = epoch_cut visit order (j + 1) n s (omega arith) (same_end a f) (epoch_next visit order j i (opened s) k r p refl) in
      subst (λ (w : TrainingState). Agreed u w) e a
