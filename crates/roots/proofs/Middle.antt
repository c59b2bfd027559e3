-- Counted in units, the side of a middle on which a root lies is a fact of whole numbers. Assumes nothing.
use mathlib.Core.Path.{◌≡◌, sym, ap, ◌∙◌, subst₂}
use Prim.Native.Nat.{ℕ, ◌+◌, ◌*◌, ◌<◌}
use native.Mathlib.Nat.{mul_right_comm, mul-pos, mul-mul-mul_comm, add-mul, mul-lt-mul_of_pos_right, lt_of_mul-lt-mul_right}
use lib.Ieee.{Float}
use lib.Ieee.Positive.{num, den, den_pos}
use Rattle.binary64.specs.Units.{units_in_one, Units}
use Rattle.binary64.proofs.Units.{first, second}
use Rattle.roots.specs.Root.{square, num_of_sum, RootBelowMiddle, RootAboveMiddle}

sum_units : (x y : Float) (u v : ℕ) → Units x u → Units y v → num_of_sum x y * units_in_one ≡ (u + v) * (den x * den y)
sum_units x y u v p q =
    add-mul (num x * den y) (num y * den x) units_in_one
    ∙ ap (λ (z : ℕ). z + num y * den x * units_in_one) (first x y u p)
    ∙ ap (λ (z : ℕ). u * (den x * den y) + z) (second x y v q)
    ∙ sym (add-mul u v (den x * den y))

square_mul : (a b : ℕ) → square (a * b) ≡ square a * square b
square_mul a b = mul-mul-mul_comm a b a b

sum_squared : (x y : Float) (u v : ℕ) → Units x u → Units y v → square (num_of_sum x y) * square units_in_one ≡ square (u + v) * square (den x * den y)
sum_squared x y u v p q = sym (square_mul (num_of_sum x y) units_in_one) ∙ ap square (sum_units x y u v p q) ∙ square_mul (u + v) (den x * den y)

scale_pos : (x y : Float) → 0 < square (den x * den y)
scale_pos x y = mul-pos (mul-pos (den_pos x) (den_pos y)) (mul-pos (den_pos x) (den_pos y))

-- ---- the root against the middle of u and v units
pub below_middle : (n : ℕ) (x y : Float) (u v : ℕ) → Units x u → Units y v → 4 * n * square units_in_one < square (u + v) → RootBelowMiddle n x y
below_middle n x y u v p q h =
    lt_of_mul-lt-mul_right (square units_in_one)
    (subst₂ (λ (a b : ℕ). a < b) (mul_right_comm (4 * n) (square units_in_one) (square (den x * den y))) (sym (sum_squared x y u v p q))
    (mul-lt-mul_of_pos_right h (scale_pos x y)))

pub above_middle : (n : ℕ) (x y : Float) (u v : ℕ) → Units x u → Units y v → square (u + v) < 4 * n * square units_in_one → RootAboveMiddle n x y
above_middle n x y u v p q h =
    lt_of_mul-lt-mul_right (square units_in_one)
    (subst₂ (λ (a b : ℕ). a < b) (sym (sum_squared x y u v p q)) (mul_right_comm (4 * n) (square units_in_one) (square (den x * den y)))
    (mul-lt-mul_of_pos_right h (scale_pos x y)))
