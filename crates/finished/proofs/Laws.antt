-- Laws of 8: what the finite test of a front tells of it, a search whose places are counted on, and what the front of a longer buffer is found to be. Assumes nothing.
use Rattle.std.specs.Prelude.{Ok, Err}
use mathlib.Core.Path.{◌≡◌, refl, ap, sym, ◌∙◌}
use mathlib.Core.Bool.{Bool, true, false, not, true≢false}
use mathlib.Core.List.{List, ◌++◌}
use Prim.Native.Nat.{ℕ, zero, suc, ◌+◌, ◌*◌, ◌<◌}
use native.Mathlib.Nat.{zero-add}
use native.Mathlib.Omega.{arith}
use lib.Dec.{T}
use lib.ListN.{length, get_or, drop, replicate, get_or-append}
use lib.Seq.{drop_at}
use lib.Ieee.{Float, nan}
use lib.Ieee.Bits.{is_true}
use lib.Ieee.Scale.{finite}
use Rattle.refusals.specs.Refusals.{Checked, refused_at, refuse, lowest}
use Rattle.refusals.specs.Tables.{not_finite}
use Rattle.refusals.proofs.Laws.{Passed, step, hit, passes, holds}
use Rattle.refusals.specs.declared.Refusal.{Refusal}
use Rattle.refusals.proofs.Meant.{accepted_means, accepted_if}
use Rattle.fronts.proofs.Finite.{all_finite_at, all_finite_if}
use Rattle.binary64.specs.Numbers.{nought}
use Rattle.lines.specs.Sound.{SoundWords}
use Rattle.finished.specs.Rows.{finished_checked, placed_after, scores_finished}
use Rattle.finished.specs.Meaning.{TestAccepts}
use Rattle.finished.specs.After.{cleared_where, contents}
use Rattle.fronts.specs.Cleared.{cleared}

-- ---- the search and the finite test
pub test_accepts : TestAccepts
test_accepts numbers n = (
  λ e. all_finite_if numbers n (λ i l. not_bad (finite (get_or numbers i nan)) (accepted_means 8 (not_finite numbers) n e i l)),
  λ e. accepted_if 8 (not_finite numbers) n (λ i l. ap not (is_true (finite (get_or numbers i nan)) (all_finite_at numbers n e i l))),
)
  where
    not_bad : (b : Bool) → not b ≡ false → T b
    not_bad true e = tt
    not_bad false e = absurd (true≢false e)

-- a search whose places are counted on: it goes on, it stops, it has found nothing
module _ (others : ℕ) {n i : ℕ} {test : ℕ → Bool} {r : Checked} where
  pub placed_goes_on : Passed 8 test n i → i < n → r ≡ refuse 8 (others + i) (test i) → r ≡ Ok tt → Passed 8 test n (i + 1)
  placed_goes_on p l e h = step p l (passes 8 (others + i) (test i) (sym e ∙ h))

  pub placed_stops : {why : Refusal} → Passed 8 test n i → i < n → r ≡ refuse 8 (others + i) (test i) → r ≡ Err why → Err why ≡ placed_after others (lowest 8 test n)
  placed_stops {why = why} p l e h =
      let t = holds 8 (others + i) (test i) why (sym e ∙ h) in
      t.1 ∙ sym (ap (placed_after others) (hit 8 test n i l p.accepted t.0))

  pub placed_hits : Passed 8 test n i → i < n → test i ≡ true → r ≡ refused_at 8 (others + i) → r ≡ placed_after others (lowest 8 test n)
  placed_hits p l t e = e ∙ sym (ap (placed_after others) (hit 8 test n i l p.accepted t))

pub placed_accepted : (others : ℕ) {check : Checked} → check ≡ Ok tt → Ok tt ≡ placed_after others check
placed_accepted others h = rw h

-- after no others, places are as they are
pub placed_first : (check : Checked) → placed_after 0 check ≡ check
placed_first (Ok _) = refl
placed_first (Err why) = let e : 0 + why.place ≡ why.place = zero-add why.place in rw e

-- ---- the front of a longer buffer

lowest_same : (number : ℕ) (f g : ℕ → Bool) (n : ℕ) → ((i : ℕ) → i < n → f i ≡ g i) → lowest number f n ≡ lowest number g n
unfolding lowest
lowest_same number f g zero h = refl
lowest_same number f g (suc n) h =
    let l : n < suc n = omega arith in
    rw (lowest_same number f g n (λ i b. h i (omega arith)), h n l)

pub front_checked : (front tail : List Float) (n : ℕ) → length front ≡ n → finished_checked (front ++ tail) n ≡ finished_checked front n
front_checked front tail n e =
    lowest_same 8 _ _ n (λ i l. ap (λ (x : Float). not (finite x)) (get_or-append front tail nan i (omega (arith, e))))

pub scores_front : (labels words : ℕ) (states transitions a b : List Float) → length states ≡ words * labels → length transitions ≡ labels * labels → scores_finished labels words (states ++ a) (transitions ++ b) ≡ scores_finished labels words states transitions
unfolding scores_finished
scores_front labels words states transitions a b e d = rw (front_checked states a (words * labels) e, front_checked transitions b (labels * labels) d)

-- a buffer that was made, and cleared where 8 is given, holds what the call promises
pub contents_kept : (finished : Checked) (needed : ℕ) (before made : List Float) {table after : List Float} → length made ≡ needed → table ≡ made ++ drop needed before → after ≡ cleared_where finished needed table → after ≡ contents (Ok tt) finished nought needed before made
contents_kept (Ok _) needed before made long t e = e ∙ t
contents_kept (Err why) needed before made long t e =
    e
    ∙ ap (λ (l : List Float). replicate needed nought ++ drop needed l) t
    ∙ ap (λ (l : List Float). replicate needed nought ++ l) (drop_at made (drop needed before) needed long)

-- the line begins at the first word
pub from_first : (words : ℕ) (starts ids : List ℕ) (values : List Float) → SoundWords words starts ids values → SoundWords (0 + words) starts ids values
from_first words starts ids values s = rw (zero-add words) s

-- ---- as the code goes

-- a front whose length was computed
pub cleared_to : {n : ℕ} (needed : ℕ) (before : List Float) {after : List Float} → n ≡ needed → after ≡ cleared nought n before → after ≡ cleared nought needed before
cleared_to needed before p e = rw p at e
