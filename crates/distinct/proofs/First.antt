-- The first step at which a test holds. Assumes nothing.
use mathlib.Core.Path.{◌≡◌, refl, sym, ap, ◌∙◌}
use mathlib.Core.Bool.{Bool, true, false, cond, false≢true}
use Prim.Native.Nat.{ℕ, zero, suc, ◌+◌, ◌-◌, ◌≤◌, ◌<◌}
use native.Mathlib.Omega.{arith}
use lib.Dec.{ltb, eqb}
use borrow.Author.Tests.{ltb-true, ltb-false, eqb-true, eqb-false}
use Rattle.distinct.specs.Slots.{first_step}

pub record Firstly (test : ℕ → Bool) (left k r : ℕ) : Type 0 where
  pub from : k ≤ r
  pub upto : r ≤ k + left
  pub before : (j : ℕ) → k ≤ j → j < r → test j ≡ false
  pub holds : r < k + left → test r ≡ true

pub firstly : (test : ℕ → Bool) (left k : ℕ) → Firstly test left k (first_step test left k)
unfolding first_step
firstly test zero k = record { from = omega arith; upto = omega arith; before = λ j a b. absurd (omega (arith, a, b)); holds = λ h. absurd (omega (arith, h)) }
firstly test (suc left) k = go (test k) refl (firstly test left (k + 1))
  where
    go : (x : Bool) → test k ≡ x → Firstly test left (k + 1) (first_step test left (k + 1)) → Firstly test (suc left) k (cond x k (first_step test left (k + 1)))
    go true e f = record { from = omega arith; upto = omega arith; before = λ j a b. absurd (omega (arith, a, b)); holds = λ h. e }
    go false e f =
        let a = f.from in
        let b = f.upto in
        record {
          from = omega (arith, a);
          upto = omega (arith, b);
          before = λ j p q. step j p q (eqb j k) refl;
          holds = λ h. f.holds (omega (arith, h));
        }
      where
        step : (j : ℕ) → k ≤ j → j < first_step test left (k + 1) → (y : Bool) → eqb j k ≡ y → test j ≡ false
        step j p q true g = ap test (eqb-true j k g) ∙ e
        step j p q false g = let n = eqb-false j k g in f.before j (omega (arith, p, n)) q

-- there is only one
pub only_one : (test : ℕ → Bool) (left k r : ℕ) → k ≤ r → r < k + left → test r ≡ true → ((j : ℕ) → k ≤ j → j < r → test j ≡ false) → first_step test left k ≡ r
only_one test left k r a b t h = go (ltb (first_step test left k) r) refl (ltb r (first_step test left k)) refl
  where
    f : Firstly test left k (first_step test left k)
    f = firstly test left k

    go : (x : Bool) → ltb (first_step test left k) r ≡ x → (y : Bool) → ltb r (first_step test left k) ≡ y → first_step test left k ≡ r
    go true e y g =
        let l = ltb-true (first_step test left k) r e in
        absurd (false≢true (sym (h (first_step test left k) f.from l) ∙ f.holds (omega (arith, l, b))))
    go false e true g = absurd (false≢true (sym (f.before r a (ltb-true r (first_step test left k) g)) ∙ t))
    go false e false g =
        let p = ltb-false (first_step test left k) r e in
        let q = ltb-false r (first_step test left k) g in
        omega (arith, p, q)

-- one that holds is not passed
pub reached : (test : ℕ → Bool) (left k j : ℕ) → k ≤ j → j < k + left → test j ≡ true → first_step test left k < k + left
reached test left k j a b t = go (ltb (first_step test left k) (k + left)) refl
  where
    f : Firstly test left k (first_step test left k)
    f = firstly test left k

    go : (x : Bool) → ltb (first_step test left k) (k + left) ≡ x → first_step test left k < k + left
    go true e = ltb-true (first_step test left k) (k + left) e
    go false e =
        let p = ltb-false (first_step test left k) (k + left) e in
        absurd (false≢true (sym (f.before j a (omega (arith, b, p))) ∙ t))

-- the same from the start on
pub reached_all : (test : ℕ → Bool) (n j : ℕ) → j < n → test j ≡ true → first_step test n 0 < n
reached_all test n j h t = let r = reached test n 0 j (omega arith) (omega (arith, h)) t in omega (arith, r)

pub only_one_all : (test : ℕ → Bool) (n r : ℕ) → r < n → test r ≡ true → ((j : ℕ) → j < r → test j ≡ false) → first_step test n 0 ≡ r
only_one_all test n r h t before = only_one test n 0 r (omega arith) (omega (arith, h)) t (λ j a b. before j b)

pub holds_all : (test : ℕ → Bool) (n : ℕ) → first_step test n 0 < n → test (first_step test n 0) ≡ true
holds_all test n h = (firstly test n 0).holds (omega (arith, h))

pub before_all : (test : ℕ → Bool) (n j : ℕ) → j < first_step test n 0 → test j ≡ false
before_all test n j h = (firstly test n 0).before j (omega arith) h

-- the loop's own steps
left_over : (n k : ℕ) → k < n → n - k ≡ suc (n - (k + 1))
left_over n k h = omega (arith, h)

nothing_left : (n k : ℕ) → n ≤ k → n - k ≡ 0
nothing_left n k h = omega (arith, h)

passed_on : (test : ℕ → Bool) (left k : ℕ) → test k ≡ false → first_step test (suc left) k ≡ first_step test left (k + 1)
unfolding first_step
passed_on test left k e = rw e refl

ended_here : (test : ℕ → Bool) (left k : ℕ) → test k ≡ true → first_step test (suc left) k ≡ k
unfolding first_step
ended_here test left k e = rw e refl

ended_there : (test : ℕ → Bool) (k : ℕ) → first_step test 0 k ≡ k
unfolding first_step
ended_there test k = refl

pub step_on : (test : ℕ → Bool) (n k : ℕ) → k < n → test k ≡ false → first_step test (n - k) k ≡ first_step test (n - (k + 1)) (k + 1)
step_on test n k h e = ap (λ (x : ℕ). first_step test x k) (left_over n k h) ∙ passed_on test (n - (k + 1)) k e

pub step_here : (test : ℕ → Bool) (n k : ℕ) → k < n → test k ≡ true → first_step test (n - k) k ≡ k
step_here test n k h e = ap (λ (x : ℕ). first_step test x k) (left_over n k h) ∙ ended_here test (n - (k + 1)) k e

pub step_none : (test : ℕ → Bool) (n k : ℕ) → n ≤ k → first_step test (n - k) k ≡ k
step_none test n k h = ap (λ (x : ℕ). first_step test x k) (nothing_left n k h) ∙ ended_there test k
