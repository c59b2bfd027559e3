-- The two neighbours of a plain value settle whether it is the nearest root: a test that computes, and one law that turns it into the promise.
-- Assumes nothing.
use mathlib.Core.Path.{◌≡◌, refl, ap, ◌∙◌, subst}
use mathlib.Core.Bool.{Bool, true, false, ◌&&◌, ◌||◌}
use Prim.Native.Nat.{ℕ, ◌+◌, ◌*◌, ◌/◌, ◌^◌, ◌≤◌, ◌<◌}
use native.Mathlib.Nat.{lt_of_lt_of_le, lt_of_le_of_lt, lt_irrefl, mul-le-mul, mul-div_cancel}
use native.Mathlib.Omega.{arith}
use lib.Dec.{T, ltb, eqb, ltb→lt, eqb→eq}
use lib.Ieee.{Float, nan, inf, fin, lt}
use lib.Ieee.Scale.{finite}
use lib.Ieee.Fits.{and_l, and_r}
use lib.Ieee.Positive.{num, den, den_pos}
use Rattle.binary64.specs.Units.{plain, units_in_one, Units}
use Rattle.binary64.proofs.Gap.{some, after, before, after_least, before_most}
use Rattle.binary64.proofs.Units.{taken, lt_units}
use Rattle.roots.specs.Root.{square, RootBelowMiddle, RootAboveMiddle, NearestRoot}
use Rattle.roots.proofs.Middle.{below_middle, above_middle}

-- how many units a plain x is
abbrev pub units : Float → ℕ
units x = num x * units_in_one / den x

pub units_is : (x : Float) (u : ℕ) → Units x u → units x ≡ u
units_is x u p = ap (λ (z : ℕ). z / den x) p ∙ mul-div_cancel u (den_pos x)

plain_finite : (x : Float) → T (plain x) → finite x ≡ true
plain_finite nan t = absurd t
plain_finite (inf s) t = absurd t
plain_finite (fin s m e) t = refl

-- the root of n lies below the middle of u units and the neighbour above, and above the middle of u and the neighbour below
abbrev pub High : ℕ → ℕ → Type 0
High n u = 4 * n * square units_in_one < square (u + after u)

abbrev pub Low : ℕ → ℕ → Type 0
Low n u = square (u + before u) < 4 * n * square units_in_one

farther : (u v w : ℕ) → v ≤ w → square (u + v) ≤ square (u + w)
farther u v w h = mul-le-mul (more u v w h) (more u v w h)
  where
    more : (u v w : ℕ) → v ≤ w → u + v ≤ u + w
    more u v w h = omega arith

pub nearest_by : (n : ℕ) (x : Float) → T (plain x) → High n (units x) → (0 < units x → Low n (units x)) → NearestRoot n x
nearest_by n x X hi lo = record { is_plain = X; is_finite = plain_finite x X; beats_larger = larger; beats_smaller = smaller }
  where
    larger : (y : Float) → T (plain y) → T (lt x y) → RootBelowMiddle n x y
    larger y Y h =
        let a = taken x X in
        let b = taken y Y in
        let u = a.0 * 2 ^ a.1 in
        let v = b.0 * 2 ^ b.1 in
        below_middle n x y u v a.3 b.3
        (lt_of_lt_of_le (subst (High n) (units_is x u a.3) hi)
        (farther u (after u) v (after_least a.0 a.1 b.0 b.1 a.2 b.2 (lt_units x y u v X Y a.3 b.3 h))))

    smaller : (y : Float) → T (plain y) → T (lt y x) → RootAboveMiddle n x y
    smaller y Y h =
        let a = taken x X in
        let b = taken y Y in
        let u = a.0 * 2 ^ a.1 in
        let v = b.0 * 2 ^ b.1 in
        let l : v < u = lt_units y x v u Y X b.3 a.3 h in
        above_middle n x y u v a.3 b.3
        (lt_of_le_of_lt (farther u v (before u) (before_most a.0 a.1 b.0 b.1 a.2 b.2 l))
        (subst (λ (z : ℕ). 0 < z → Low n z) (units_is x u a.3) lo (some v u l)))

-- ---- the same as a test
abbrev pub passes : ℕ → Float → Bool
passes n x =
    let u = units x in
    plain x && (ltb (4 * n * square units_in_one) (square (u + after u)) && (eqb u 0 || ltb (square (u + before u)) (4 * n * square units_in_one)))

other : (a b : Bool) → T (a || b) → (T a → ⊥) → T b
other true b t h = absurd (h tt)
other false b t h = t

pub passes_nearest : (n : ℕ) (x : Float) → T (passes n x) → NearestRoot n x
passes_nearest n x t =
    let u = units x in
    let A = plain x in
    let B = ltb (4 * n * square units_in_one) (square (u + after u)) in
    let C = ltb (square (u + before u)) (4 * n * square units_in_one) in
    nearest_by n x (and_l A (B && (eqb u 0 || C)) t)
    (ltb→lt (4 * n * square units_in_one) (square (u + after u)) (and_l B (eqb u 0 || C) (and_r A (B && (eqb u 0 || C)) t)))
    (λ (h : 0 < u).
    ltb→lt (square (u + before u)) (4 * n * square units_in_one)
    (other (eqb u 0) C (and_r B (eqb u 0 || C) (and_r A (B && (eqb u 0 || C)) t)) (λ z. lt_irrefl 0 (subst (λ (w : ℕ). 0 < w) (eqb→eq u 0 z) h))))
