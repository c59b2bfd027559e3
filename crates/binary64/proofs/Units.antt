-- A plain value is a whole number of units, the unit being binary64's smallest value: m * 2 ^ j of them, with m below 2 ^ 53. Counted in units,
-- the order of values is that of whole numbers. Assumes nothing.
use mathlib.Core.Path.{◌≡◌, refl, sym, ap, ◌∙◌, subst, subst₂}
use mathlib.Core.Bool.{true, false, ◌&&◌}
use Prim.Native.Nat.{ℕ, zero, suc, ◌+◌, ◌-◌, ◌*◌, ◌%◌, ◌^◌, ◌≤◌, ◌<◌}
use native.Mathlib.Nat.{le_of_suc-le-suc, lt_of_not-le, lt_of_lt_of_le, lt_irrefl, zero-mul, mul-one, mul_comm, mul_assoc, mul_right_comm, mul-lt-mul_of_pos_right, lt_of_mul-lt-mul_right}
use lib.Dec.{T, leb, ltb, eqb, leb→le, ltb→lt, lit<}
use lib.IntN.{ℤ, pos, negsuc}
use lib.Pow.{pow-add, pow_pos, pow-lt}
use lib.Ieee.{Float, nan, inf, fin, binary64, fits, lt, up, down}
use lib.Ieee.Digits.{back}
use lib.Ieee.Fits.{and_l, and_r}
use lib.Ieee.Positive.{num, den}
use Rattle.binary64.specs.Units.{plain, units_in_one, Units}

-- binary64 holds a plain value
pub held : (x : Float) → T (plain x) → T (fits binary64 x)
held nan t = absurd t
held (inf s) t = absurd t
held (fin true m e) t = absurd t
held (fin false m e) t = t

-- what a plain value is, taken apart
abbrev pub Taken : Float → Type 0
Taken x = (m : ℕ) × (j : ℕ) × (m < 2 ^ 53) × Units x (m * 2 ^ j)

pow_le_back : (a l : ℕ) → 2 ^ a ≤ 2 ^ l → a ≤ l
pow_le_back a l h = le_of_suc-le-suc (lt_of_not-le (λ (g : suc l ≤ a). lt_irrefl (2 ^ l) (lt_of_lt_of_le (pow-lt g) h)))

-- m * 2 ^ e is m * 2 ^ j units
placed : (m l : ℕ) (e : ℤ) → down e ≤ 2 ^ l → (j : ℕ) × (m * up e * 2 ^ l ≡ m * 2 ^ j * down e)
placed m l (pos a) h = (a + l, mul_assoc m (2 ^ a) (2 ^ l) ∙ ap (λ (x : ℕ). m * x) (sym (pow-add 2 a l)) ∙ sym (mul-one (m * 2 ^ (a + l))))
placed m l (negsuc a) h =
    let le : suc a ≤ l = pow_le_back (suc a) l h in (
      l - suc a,
      ap (λ (x : ℕ). x * 2 ^ l) (mul-one m)
          ∙ ap (λ (x : ℕ). m * x) (ap (λ (x : ℕ). 2 ^ x) (sym (back l (suc a) le)) ∙ pow-add 2 (l - suc a) (suc a))
          ∙ sym (mul_assoc m (2 ^ (l - suc a)) (2 ^ suc a)),
    )

pub taken : (x : Float) → T (plain x) → Taken x
unfolding fits units_in_one
taken nan t = absurd t
taken (inf s) t = absurd t
taken (fin true m e) t = absurd t
taken (fin false zero e) t = (0, 0, lit< tt, ap (λ (x : ℕ). x * units_in_one) (zero-mul (up e)) ∙ sym (zero-mul (down e)))
taken (fin false (suc m) e) t =
    let A = eqb (suc m % 2) 1 in
    let B = ltb (suc m) (2 ^ 53) in
    let C = leb (down e) (2 ^ 1074) in
    let D = ltb (suc m * up e) (2 ^ 1024 * down e) in
    let p = placed (suc m) 1074 e (leb→le (down e) (2 ^ 1074) (and_r (A && B) C (and_l (A && B && C) D t))) in
    (suc m, p.0, ltb→lt (suc m) (2 ^ 53) (and_r A B (and_l (A && B) C (and_l (A && B && C) D t))), p.1)

-- ---- the kit's order of two plain values is that of their fractions
pub order : (x y : Float) → T (plain x) → T (plain y) → lt x y ≡ ltb (num x * den y) (num y * den x)
unfolding lt
order nan y p q = absurd p
order (inf s) y p q = absurd p
order (fin true m e) y p q = absurd p
order (fin false m e) nan p q = absurd q
order (fin false m e) (inf s) p q = absurd q
order (fin false m e) (fin true n d) p q = absurd q
order (fin false m e) (fin false n d) p q = refl

-- ---- from units to fractions
pub one_pos : 0 < units_in_one
unfolding units_in_one
one_pos = pow_pos 1074

-- x and y over the one denominator den x * den y, in units
pub first : (x y : Float) (u : ℕ) → Units x u → num x * den y * units_in_one ≡ u * (den x * den y)
first x y u p = mul_right_comm (num x) (den y) units_in_one ∙ ap (λ (z : ℕ). z * den y) p ∙ mul_assoc u (den x) (den y)

pub second : (x y : Float) (v : ℕ) → Units y v → num y * den x * units_in_one ≡ v * (den x * den y)
second x y v q = first y x v q ∙ ap (λ (z : ℕ). v * z) (mul_comm (den y) (den x))

pub lt_units : (x y : Float) (u v : ℕ) → T (plain x) → T (plain y) → Units x u → Units y v → T (lt x y) → u < v
lt_units x y u v X Y p q h =
    lt_of_mul-lt-mul_right (den x * den y)
    (subst₂ (λ (a b : ℕ). a < b) (first x y u p) (second x y v q)
    (mul-lt-mul_of_pos_right (ltb→lt (num x * den y) (num y * den x) (subst T (order x y X Y) h)) one_pos))
