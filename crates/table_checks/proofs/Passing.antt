-- A pass that has no way out in the middle: while its flag holds, no place that it passed is refused. Assumes nothing.
use Rattle.std.specs.Prelude.{Ok}
use mathlib.Core.Path.{◌≡◌, refl, sym}
use mathlib.Core.Bool.{Bool, true, false, not, ◌&&◌, ◌||◌, true≢false}
use mathlib.Core.List.{List}
use Prim.Native.Nat.{ℕ, zero, suc, ◌+◌, ◌≤◌, ◌<◌}
use native.Mathlib.Numerals.{add-one}
use native.Mathlib.Nat.{le_antisymm}
use native.Mathlib.Omega.{arith}
use borrow.Author.Tests.{ltb-true, leb-true, le-ltb, lt-leb}
use lib.Dec.{eqb, ltb, leb}
use lib.ListN.{get_or}
use lib.Ieee.{Float, nan}
use lib.Ieee.Scale.{finite}
use Rattle.refusals.specs.Refusals.{refuse, or_next_of, lowest}
use Rattle.refusals.specs.Tables.{not_below, bad_kind, bad_source, not_finite}
use Rattle.fronts.specs.Finite.{all_finite_of}

and_left : (a b : Bool) → a && b ≡ true → a ≡ true
and_left true b e = refl
and_left false b e = e

and_right : (a b : Bool) → a && b ≡ true → b ≡ true
and_right true b e = e
and_right false b e = absurd (true≢false (sym e))

below : (id bound : ℕ) → ltb id bound ≡ true → leb bound id ≡ false
below id bound h = lt-leb bound id (ltb-true id bound h)

-- the invariant of such a pass
pub record Passing (number : ℕ) (test : ℕ → Bool) (n : ℕ) (all : Bool) (i : ℕ) : Type 0 where
  pub inside : i ≤ n
  pub accepted : all ≡ true → lowest number test i ≡ Ok tt

module _ {number : ℕ} {test : ℕ → Bool} {n : ℕ} {all : Bool} where
  pub pass_begin : Passing number test n all 0
  unfolding lowest
  pass_begin = record { inside = omega arith; accepted = λ e. refl }

  pub pass_step : {good : Bool} {i : ℕ} → Passing number test n all i → i < n → (good ≡ true → test i ≡ false) → Passing number test n (all && good) (i + 1)
  unfolding lowest or_next_of refuse
  pass_step {good = good} p l g = record { inside = omega arith; accepted = λ e. rw (add-one, p.accepted (and_left all good e), g (and_right all good e)) }

  pub pass_end : {i : ℕ} → Passing number test n all i → n ≤ i → all ≡ true → lowest number test n ≡ Ok tt
  pass_end {i} p l h = let e : n ≡ i = le_antisymm l p.inside in rw e (p.accepted h)

-- the flag's tests: where one holds, the place is not bad
pub below_step : (ids : List ℕ) (bound : ℕ) {n : ℕ} {all : Bool} {i : ℕ} → Passing 5 (not_below ids bound) n all i → i < n → Passing 5 (not_below ids bound) n (all && ltb (get_or ids i 0) bound) (i + 1)
below_step ids bound {i = i} p l = pass_step p l (below (get_or ids i 0) bound)

pub kind_step : (kinds : List ℕ) {n : ℕ} {all : Bool} {i : ℕ} → Passing 5 (bad_kind kinds) n all i → i < n → Passing 5 (bad_kind kinds) n (all && leb (get_or kinds i 0) 1) (i + 1)
kind_step kinds {i = i} p l = pass_step p l (λ h. le-ltb 1 (get_or kinds i 0) (leb-true (get_or kinds i 0) 1 h))

pub source_step : (kinds sources : List ℕ) (labels : ℕ) {n : ℕ} {all : Bool} {i : ℕ} → Passing 5 (bad_source kinds sources labels) n all i → i < n → Passing 5 (bad_source kinds sources labels) n (all && (not (eqb (get_or kinds i 0) 1) || ltb (get_or sources i 0) labels)) (i + 1)
source_step kinds sources labels {i = i} p l = pass_step p l (go (eqb (get_or kinds i 0) 1))
  where
    go : (transition : Bool) → not transition || ltb (get_or sources i 0) labels ≡ true → transition && leb labels (get_or sources i 0) ≡ false
    go false h = refl
    go true h = below (get_or sources i 0) labels h

-- a finite front has no bad number
pub finite_passed : (numbers : List Float) (n : ℕ) → all_finite_of numbers n ≡ true → lowest 6 (not_finite numbers) n ≡ Ok tt
unfolding all_finite_of lowest or_next_of refuse
finite_passed numbers zero h = refl
finite_passed numbers (suc n) h =
    let f = and_right (all_finite_of numbers n) (finite (get_or numbers n nan)) h in
    rw (finite_passed numbers n (and_left (all_finite_of numbers n) (finite (get_or numbers n nan)) h), f)
