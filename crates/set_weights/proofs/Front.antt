-- The laws of a table that is filled from the front. Assumes nothing.
use mathlib.Core.Path.{◌≡◌, refl, sym, ◌∙◌, ap}
use mathlib.Core.List.{List, ◌++◌}
use Prim.Native.Nat.{ℕ, ◌+◌, ◌<◌, ◌≤◌}
use native.Mathlib.Numerals.{add-one}
use native.Mathlib.Omega.{arith}
use lib.ListN.{length, get_or, set, take, drop, length-set, take-append-drop}
use lib.Seq.{take-suc, take-suc-set, drop-set-lt, drop-drop}
use lib.Ieee.{Float, nan}

-- the first i of a table are the new ones, and the rest is as it was
pub record Filled (n : ℕ) (new before now : List Float) (i : ℕ) : Type 0 where
  pub inside : i ≤ n
  pub same_length : length now ≡ length before
  pub front : take i now ≡ take i new
  pub rest : drop i now ≡ drop i before

module _ (n : ℕ) (new before : List Float) where
  pub none_filled : Filled n new before before 0
  none_filled = record { inside = omega arith; same_length = refl; front = refl; rest = refl }

  pub one_more : (now : List Float) (i : ℕ) → i < n → n ≤ length new → n ≤ length before → Filled n new before now i → Filled n new before (set now i (get_or new i nan)) (i + 1)
  one_more now i l a b f =
      let e = f.same_length in
      let h : i < length now = omega arith in
      let g : i < length new = omega arith in
      record {
        inside = omega arith;
        same_length = length-set now i (get_or new i nan) ∙ e;
        front = rw (add-one, take-suc-set now i (get_or new i nan) h, take-suc new i nan g, f.front);
        rest = drop-set-lt (i + 1) now i (get_or new i nan) (omega arith) ∙ sym (drop-drop 1 i now) ∙ ap (drop 1) f.rest ∙ drop-drop 1 i before;
      }

  pub all_filled : (now : List Float) (i : ℕ) → n ≤ i → Filled n new before now i → now ≡ take n new ++ drop n before
  all_filled now i l f =
      let e : i ≡ n = omega (arith, f.inside) in
      sym (take-append-drop n now) ∙ rw (← e, f.front, f.rest)
