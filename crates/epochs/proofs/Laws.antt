-- A loop over epochs, whose turns agree with the definition's up to the tables of a refused visit. Assumes nothing.
use mathlib.Core.Path.{◌≡◌, refl, sym, ap, ◌∙◌, subst}
use mathlib.Core.Bool.{Bool, true, false, ◌||◌, true≢false}
use Prim.Native.Nat.{ℕ, ◌+◌, ◌≤◌, ◌<◌}
use native.Mathlib.Nat.{le_antisymm}
use native.Mathlib.Omega.{arith}
use lib.Ieee.{Float}
use Rattle.shuffle.specs.Shuffle.{Deal, shuffled}
use Rattle.lines.specs.Passes.{through}
use Rattle.lines.proofs.Laws.{through_end}
use Rattle.training.specs.declared.Progress.{Progress}
use Rattle.training.specs.Counter.{most_visits}
use Rattle.training.specs.Visits.{TrainingState}
use Rattle.training.specs.Epochs.{Run, epoch_over, ends_after, epoch, epoch_unless_over}
use Rattle.training.specs.Orders.{OrderOf}
use Rattle.training.proofs.Orders.{shuffle_keeps}
use Rattle.training.proofs.Epochs.{epoch_made, run_next, run_cut}
use Rattle.updates.specs.Updating.{Agreed}
use Rattle.begin_and_end.specs.Ending.{Finished}
use Rattle.one_epoch.proofs.Laws.{same_end}

-- ---- epochs
-- a shuffled order goes through the same instances, whatever was drawn
pub dealt_keeps : (n : ℕ) (k l : Deal) → l ≡ shuffled n k → OrderOf n k.order → OrderOf n l.order
dealt_keeps n k l e o = rw e (shuffle_keeps n k o)

first_false : (a b : Bool) → a || b ≡ false → a ≡ false
first_false true b e = absurd (true≢false e)
first_false false b e = refl

module _ (visit : ℕ → TrainingState → TrainingState) (stop : Float → Bool) (n : ℕ) (r₀ : Run) where
  -- none of the epochs allowed ended training
  pub all_run : (e allowed : ℕ) (s : TrainingState) (k : Deal) → e ≤ allowed → allowed ≤ e → s.progress.visits ≤ most_visits → ◌≡◌ {A = Run} (record { state = s; deal = k; epochs = e; over = false }) (through (epoch_unless_over visit stop n) 0 e r₀) → Finished (record { progress = s.progress; epochs = allowed }) s.learned.weights s.learned.beside (through (epoch_unless_over visit stop n) 0 allowed r₀)
  all_run e allowed s k h l v p =
      let q = p ∙ through_end (epoch_unless_over visit stop n) e allowed r₀ h l in
      record {
        progress = ap (λ (r : Run). r.state.progress) q;
        epochs = λ _. le_antisymm l h ∙ ap (λ (r : Run). r.epochs) q;
        learned = λ _. ap (λ (r : Run). r.state.learned) q;
        visits = v;
      }

  -- one epoch more: s and k are what e epochs left, t and l what it leaves, and o whether training ends
  module _ (e : ℕ) {s t : TrainingState} {k l : Deal} {o : Bool} (p : ◌≡◌ {A = Run} (record { state = s; deal = k; epochs = e; over = false }) (through (epoch_unless_over visit stop n) 0 e r₀)) (d : l ≡ shuffled n k) (a : Agreed t (epoch_over visit l.order n s)) (q : o ≡ ends_after stop n t.progress) where
    pub run_on : o ≡ false → ◌≡◌ {A = Run} (record { state = t; deal = l; epochs = e + 1; over = false }) (through (epoch_unless_over visit stop n) 0 (e + 1) r₀)
    run_on f =
        let w : t ≡ epoch_over visit l.order n s = a.whole (same_end a (first_false _ _ (sym q ∙ f))) in
        rw f at (run_next visit stop n e r₀ refl p (epoch_made visit stop n _ l t o d w q))

    after : Run
    after = epoch visit stop n (record { state = s; deal = k; epochs = e; over = false })

    agreed : Agreed t after.state
    unfolding epoch after
    agreed = rw d at a

    over : o ≡ true → after.over ≡ true
    unfolding epoch after
    over f = ap (λ (x : Progress). ends_after stop n x) (sym agreed.progress) ∙ sym q ∙ f

    counts : after.epochs ≡ e + 1
    unfolding epoch after
    counts = refl

    pub run_ended : (allowed : ℕ) → e < allowed → o ≡ true → t.progress.visits ≤ most_visits → Finished (record { progress = t.progress; epochs = e + 1 }) t.learned.weights t.learned.beside (through (epoch_unless_over visit stop n) 0 allowed r₀)
    unfolding after
    run_ended allowed h f v =
        let u : after ≡ through (epoch_unless_over visit stop n) 0 allowed r₀ = run_cut visit stop n (e + 1) allowed r₀ (omega arith) (over f) (run_next visit stop n e r₀ refl p refl) in
        subst (λ (r : Run). Finished (record { progress = t.progress; epochs = e + 1 }) t.learned.weights t.learned.beside r) u
        (record {
          progress = agreed.progress;
          epochs = λ _. sym counts;
          learned = λ g. ap (λ (x : TrainingState). x.learned) (agreed.whole g);
          visits = v;
        })
