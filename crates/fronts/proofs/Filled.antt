-- A loop that gives the front of a table the entries of a list, one after the other. Assumes nothing.
use mathlib.Core.Path.{◌≡◌, sym, ap, ◌∙◌}
use mathlib.Core.List.{List, ◌++◌, append-nil}
use Prim.Native.Nat.{ℕ, ◌+◌, ◌≤◌, ◌<◌}
use native.Mathlib.Numerals.{add-one}
use native.Mathlib.Nat.{le_antisymm, le_of_eq, zero-add}
use native.Mathlib.Omega.{arith}
use lib.ListN.{length, get_or, set, take, drop, drop_of_length-le}
use lib.Seq.{paste-zero, paste-suc, take-length}

-- the first i of the list, before the rest of the table
unfoldable pub filled : {A : Type 0} → List A → List A → ℕ → List A
filled table list i = take i list ++ drop i table

module _ {A : Type 0} (table list : List A) where
  pub filled_none : table ≡ filled table list 0
  unfolding filled
  filled_none = paste-zero table 0 list

  -- a turn that stores at i what the list has there
  pub filled_next : (i : ℕ) {t : List A} (d x : A) → i < length table → i < length list → t ≡ filled table list i → x ≡ get_or list i d → set t i x ≡ filled table list (i + 1)
  unfolding filled
  filled_next i d x h k e p =
      let h' : 0 + i < length table = omega arith in
      rw (e, p, add-one) (simp zero-add at (paste-suc table 0 list i d h' k))

  pub filled_end : (i n : ℕ) → length list ≡ n → i ≤ n → n ≤ i → filled table list i ≡ list ++ drop n table
  unfolding filled
  filled_end i n e p q = rw (le_antisymm p q, sym e, take-length)

-- a buffer that is no longer than its front
pub all_of : {A : Type 0} (xs ys : List A) (n : ℕ) → length ys ≡ n → xs ++ drop n ys ≡ xs
all_of xs ys n e = ap (λ (zs : List _). xs ++ zs) (drop_of_length-le ys (le_of_eq e)) ∙ append-nil xs
