-- The test of two names, and the id of a name. Assumes nothing.
use mathlib.Core.Path.{◌≡◌, refl, sym, ap, subst, ◌∙◌}
use mathlib.Core.Bool.{Bool, true, false, cond, ◌&&◌, true≢false, false≢true}
use mathlib.Core.List.{List, [], ◌∷◌, ◌++◌}
use Prim.Native.Nat.{ℕ, zero, suc, ◌+◌, ◌≤◌, ◌<◌}
use native.Mathlib.Nat.{le_refl}
use native.Mathlib.Numerals.{add-one}
use native.Mathlib.Omega.{arith}
use lib.Dec.{ltb, eqb}
use lib.ListN.{length, get_or}
use borrow.Author.Tests.{ltb-true, ltb-false, eqb-true, lt-ltb, le-ltb, eq-eqb, ne_eqb}
use Rattle.layout.specs.Layout.{Bytes}
use Rattle.text_tables.specs.Distinct.{same, id_in, learnt}

same_refl : (n : Bytes) → same n n ≡ true
unfolding same
same_refl [] = refl
same_refl (b ∷ n) = rw (eq-eqb b b refl, same_refl n) refl

both : (x y : Bool) → x && y ≡ true → (x ≡ true) × (y ≡ true)
both true y e = (refl, e)
both false y e = absurd (false≢true e)

pub same_true : (m n : Bytes) → same m n ≡ true → m ≡ n
unfolding same
same_true [] [] e = refl
same_true [] (b ∷ n) e = absurd (false≢true e)
same_true (a ∷ m) [] e = absurd (false≢true e)
same_true (a ∷ m) (b ∷ n) e =
    let p = both (eqb a b) (same m n) e in
    ap (λ (x : ℕ). x ∷ m) (eqb-true a b p.0) ∙ ap (λ (x : Bytes). b ∷ x) (same_true m n p.1)

pub eq_same : (m n : Bytes) → m ≡ n → same m n ≡ true
eq_same m n e = subst (λ (x : Bytes). same m x ≡ true) e (same_refl m)

pub same_false : (m n : Bytes) → same m n ≡ false → m ≡ n → ⊥
same_false m n e q = true≢false (sym (eq_same m n q) ∙ e)

pub ne_same : (m n : Bytes) → (m ≡ n → ⊥) → same m n ≡ false
ne_same m n h = go (same m n) refl
  where
    go : (x : Bool) → same m n ≡ x → same m n ≡ false
    go true e = absurd (h (same_true m n e))
    go false e = e

-- ---- the id of a name: the least place that has it
pub record Id (known : List Bytes) (n : Bytes) (p : ℕ) : Type 0 where
  pub upto : p ≤ length known
  pub is : p < length known → get_or known p [] ≡ n
  pub least : (v : ℕ) → v < length known → get_or known v [] ≡ n → p ≤ v

pub id_meant : (known : List Bytes) (n : Bytes) → Id known n (id_in known n)
unfolding id_in
id_meant [] n = record { upto = le_refl 0; is = λ h. absurd (omega (arith, h)); least = λ v h e. absurd (omega (arith, h)) }
id_meant (m ∷ known) n = go (same m n) refl (id_meant known n)
  where
    go : (x : Bool) → same m n ≡ x → Id known n (id_in known n) → Id (m ∷ known) n (cond x 0 (suc (id_in known n)))
    go true e p = record { upto = omega arith; is = λ _. same_true m n e; least = λ v h q. omega arith }
    go false e p =
        let a = p.upto in
        record { upto = omega (arith, a); is = λ h. p.is (omega (arith, h)); least = λ v h q. later v h q }
      where
        later : (v : ℕ) → v < suc (length known) → get_or (m ∷ known) v [] ≡ n → suc (id_in known n) ≤ v
        later zero h q = absurd (same_false m n e q)
        later (suc v) h q = let b = p.least v (omega (arith, h)) q in omega (arith, b)

-- ---- the names known with one more
pub longer : (known : List Bytes) (n : Bytes) → length (known ++ (n ∷ [])) ≡ suc (length known)
longer [] n = refl
longer (m ∷ known) n = ap suc (longer known n)

pub learnt_new : (known : List Bytes) (n : Bytes) → id_in known n ≡ length known → learnt known n ≡ known ++ (n ∷ [])
unfolding learnt
learnt_new known n e = rw (e, le-ltb (length known) (length known) (le_refl (length known))) refl

pub learnt_old : (known : List Bytes) (n : Bytes) → id_in known n < length known → learnt known n ≡ known
unfolding learnt
learnt_old known n h = rw (lt-ltb (id_in known n) (length known) h) refl

-- how many they are: one more where the id was the count
pub learnt_length : (known : List Bytes) (n : Bytes) → length (learnt known n) ≡ cond (eqb (id_in known n) (length known)) (length known + 1) (length known)
unfolding learnt
learnt_length known n = go (ltb (id_in known n) (length known)) refl
  where
    go : (x : Bool) → ltb (id_in known n) (length known) ≡ x → length (cond x known (known ++ (n ∷ []))) ≡ cond (eqb (id_in known n) (length known)) (length known + 1) (length known)
    go true e = let h = ltb-true (id_in known n) (length known) e in rw (ne_eqb (id_in known n) (length known) (λ q. omega (arith, h, q))) refl
    go false e =
        let h = ltb-false (id_in known n) (length known) e in
        let u = (id_meant known n).upto in
        rw (eq-eqb (id_in known n) (length known) (omega (arith, h, u))) (longer known n ∙ sym (add-one (length known)))
