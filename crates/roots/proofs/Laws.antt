-- The promise settles a root to the bit, and at the counts 0 to 128 it is the root that whole numbers work out. Assumes nothing.
use mathlib.Core.Path.{◌≡◌, refl, sym, ap, ◌∙◌, subst, subst₂}
use mathlib.Core.Bool.{true, false}
use Prim.Native.Nat.{ℕ, ◌+◌, ◌-◌, ◌*◌, ◌/◌, ◌^◌, ◌≤◌, ◌<◌, suc-le-suc}
use native.Mathlib.Nat.{le_antisymm, add_comm, mul_comm, mul_right_comm}
use native.Mathlib.Omega.{arith}
use lib.Dec.{T, ltb, nltb→le, not_T}
use lib.Ieee.{Float, nan, inf, fin, binary64, fits, lt, size, to_bits, of_bits}
use lib.Ieee.Bits.{of_bits-to_bits}
use lib.Ieee.Nearest.{div_same}
use lib.Ieee.Positive.{num, den, den_pos}
use Rattle.binary64.specs.Units.{plain, units_in_one}
use Rattle.binary64.proofs.Units.{held, order}
use Rattle.roots.specs.Root.{square, num_of_sum, NearestRoot, nearest_root, OnlyOne, WorkedOut}
use Rattle.roots.proofs.Nearest.{units, passes, passes_nearest}
use Rattle.roots.proofs.Each.{each_at}

-- ---- "Roots of the whole numbers 0 to 128": one test, computed at each
pub worked_out : WorkedOut
unfolding nearest_root fits size units_in_one
worked_out n h = passes_nearest n (nearest_root n) (each_at (λ k. passes k (nearest_root k)) 129 tt n (suc-le-suc h))

-- ---- two plain values of the same size are the same
abbrev pattern : ℕ → ℕ
pattern u = 0 + (size u - 53) * 2 ^ 52 + u / 2 ^ (size u - 53)

bits : (x : Float) → T (plain x) → to_bits binary64 x ≡ pattern (units x)
unfolding to_bits units_in_one
bits nan t = absurd t
bits (inf s) t = absurd t
bits (fin true m e) t = absurd t
bits (fin false m e) t = refl

same : (x y : Float) → T (plain x) → T (plain y) → num x * den y ≡ num y * den x → x ≡ y
same x y X Y e =
    let u : units x ≡ units y =
    div_same (num x * units_in_one) (den x) (num y * units_in_one) (den y) (den_pos x) (den_pos y) (mul_right_comm (num x) units_in_one (den y) ∙ ap (λ (z : ℕ). z * units_in_one) e ∙ mul_right_comm (num y) (den x) units_in_one) in
    sym (of_bits-to_bits binary64 x (held x X))
    ∙ ap (of_bits binary64) (bits x X ∙ ap pattern u ∙ sym (bits y Y))
    ∙ of_bits-to_bits binary64 y (held y Y)

-- ---- of two nearest roots neither is below the other
never : (n : ℕ) (r q : Float) → NearestRoot n r → NearestRoot n q → T (lt r q) → ⊥
never n r q R Q h =
    clash (4 * n * square (den r * den q)) (square (num_of_sum r q)) (R.beats_larger q Q.is_plain h)
    (subst₂ (λ (a d : ℕ). square a < 4 * n * square d) (add_comm (num q * den r) (num r * den q)) (mul_comm (den q) (den r)) (Q.beats_smaller r R.is_plain h))
  where
    clash : (a b : ℕ) → a < b → b < a → ⊥
    clash a b h k = omega arith

-- where x is not below y, y is at most x
apart : (x y : Float) → T (plain x) → T (plain y) → (T (lt x y) → ⊥) → num y * den x ≤ num x * den y
apart x y X Y h = nltb→le (num x * den y) (num y * den x) (not_T (ltb (num x * den y) (num y * den x)) (λ t. h (subst T (sym (order x y X Y)) t)))

pub only_one : OnlyOne
only_one n r q R Q =
    same r q R.is_plain Q.is_plain
    (le_antisymm (apart q r Q.is_plain R.is_plain (never n q r Q R)) (apart r q R.is_plain Q.is_plain (never n r q R Q)))

-- ---- what a caller of `root` knows
pub root_is : (n : ℕ) (r : Float) → n ≤ 128 → NearestRoot n r → r ≡ nearest_root n
root_is n r h R = only_one n r (nearest_root n) R (worked_out n h)
