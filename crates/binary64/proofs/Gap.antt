-- The numbers m * 2 ^ j with m below 2 ^ 53, which the values of binary64 are when counted in units of the smallest: of such a number u, `after u`
-- is the next one above and `before u` the next one below. Nothing here is about floats. Assumes nothing.
use mathlib.Core.Path.{◌≡◌, sym, ap, ◌∙◌, subst}
use mathlib.Core.Bool.{Bool, true, false, not}
use Prim.Native.Nat.{ℕ, ◌+◌, ◌-◌, ◌*◌, ◌^◌, ◌≤◌, ◌<◌}
use native.Mathlib.Nat.{le_trans, le_of_eq, lt_of_le_of_lt, lt_of_lt_of_le, lt_of_mul-lt-mul_right, mul-le-mul_right, mul_assoc, suc-mul, sub-le}
use native.Mathlib.Omega.{arith}
use lib.Dec.{T, leb, leb→le, nleb→lt}
use lib.Pow.{pow-add, pow_pos, pow_mono, shl_lt}
use lib.Ieee.{size}
use lib.Ieee.Digits.{back, size-le, size_reaches}

-- m * 2 ^ j is a multiple of 2 ^ k
shifted : (m j k : ℕ) → k ≤ j → m * 2 ^ j ≡ m * 2 ^ (j - k) * 2 ^ k
shifted m j k h = ap (λ (i : ℕ). m * 2 ^ i) (sym (back j k h)) ∙ ap (λ (x : ℕ). m * x) (pow-add 2 (j - k) k) ∙ sym (mul_assoc m (2 ^ (j - k)) (2 ^ k))

-- one more multiple
next : (a b p : ℕ) → a * p < b * p → a * p + p ≤ b * p
next a b p h = le_trans (le_of_eq (sym (suc-mul a p))) (mul-le-mul_right p (lt_of_mul-lt-mul_right p h))

-- with fewer zeros at its end it is small
low : (m j k : ℕ) → m < 2 ^ 53 → j < k → m * 2 ^ j < 2 ^ (52 + k)
low m j k h l = lt_of_lt_of_le (shl_lt 53 j h) (pow_mono (room j k l))
  where
    room : (j k : ℕ) → j < k → 53 + j ≤ 52 + k
    room j k l = omega arith

pub some : (j k : ℕ) → j < k → 0 < k
some j k h = omega arith

clash : (a b c : ℕ) → a < b → b < c → c ≤ a → ⊥
clash a b c h k l = omega arith

-- Where q is 2 ^ 52 at least, none of these numbers lies less than 2 ^ k above q * 2 ^ k, and where q is more, none less than 2 ^ k below it.
-- At k = 0 that holds of any q.
gap_above : (m j q k : ℕ) → m < 2 ^ 53 → (0 < k → 2 ^ (52 + k) ≤ q * 2 ^ k) → q * 2 ^ k < m * 2 ^ j → q * 2 ^ k + 2 ^ k ≤ m * 2 ^ j
gap_above m j q k M big h = go (leb k j) (leb→le k j) (nleb→lt k j)
  where
    go : (b : Bool) → (T b → k ≤ j) → (T (not b) → j < k) → q * 2 ^ k + 2 ^ k ≤ m * 2 ^ j
    go true l g =
        let e = shifted m j k (l tt) in
        subst (λ (x : ℕ). q * 2 ^ k + 2 ^ k ≤ x) (sym e) (next q (m * 2 ^ (j - k)) (2 ^ k) (subst (λ (x : ℕ). q * 2 ^ k < x) e h))
    go false l g = absurd (clash (q * 2 ^ k) (m * 2 ^ j) (2 ^ (52 + k)) h (low m j k M (g tt)) (big (some j k (g tt))))

gap_below : (m j q k : ℕ) → m < 2 ^ 53 → (0 < k → 2 ^ (52 + k) < q * 2 ^ k) → m * 2 ^ j < q * 2 ^ k → m * 2 ^ j + 2 ^ k ≤ q * 2 ^ k
gap_below m j q k M big h = go (leb k j) (leb→le k j) (nleb→lt k j)
  where
    join : (a b p c : ℕ) → a < b → b + p ≤ c → a + p ≤ c
    join a b p c l g = omega arith

    go : (b : Bool) → (T b → k ≤ j) → (T (not b) → j < k) → m * 2 ^ j + 2 ^ k ≤ q * 2 ^ k
    go true l g =
        let e = shifted m j k (l tt) in
        subst (λ (x : ℕ). x + 2 ^ k ≤ q * 2 ^ k) (sym e) (next (m * 2 ^ (j - k)) q (2 ^ k) (subst (λ (x : ℕ). x < q * 2 ^ k) e h))
    go false l g =
        let e = pow-add 2 52 k in
        join (m * 2 ^ j) (2 ^ (52 + k)) (2 ^ k) (q * 2 ^ k) (low m j k M (g tt))
        (subst (λ (x : ℕ). x + 2 ^ k ≤ q * 2 ^ k) (sym e) (next (2 ^ 52) q (2 ^ k) (subst (λ (x : ℕ). x < q * 2 ^ k) e (big (some j k (g tt))))))

-- ---- the neighbours
abbrev pub after : ℕ → ℕ
after u = u + 2 ^ (size u - 53)

abbrev pub before : ℕ → ℕ
before u = u - 2 ^ (size (u - 1) - 53)

fewer : (z j : ℕ) → z ≤ 53 + j → z - 53 ≤ j
fewer z j h = omega arith

full : (z : ℕ) → 0 < z - 53 → 52 + (z - 53) < z
full z h = omega arith

less_one : (u p : ℕ) → 0 < p → p ≤ u - 1 → p < u
less_one u p h l = omega arith

take_off : (a p u : ℕ) → a + p ≤ u → a ≤ u - p
take_off a p u h = omega arith

pub after_least : (i t m j : ℕ) → i < 2 ^ 53 → m < 2 ^ 53 → i * 2 ^ t < m * 2 ^ j → after (i * 2 ^ t) ≤ m * 2 ^ j
after_least i t m j I M h =
    let u = i * 2 ^ t in
    let k = size u - 53 in
    let e : u ≡ i * 2 ^ (t - k) * 2 ^ k = shifted i t k (fewer (size u) t (size-le u (53 + t) (shl_lt 53 t I))) in
    subst (λ (z : ℕ). z + 2 ^ k ≤ m * 2 ^ j) (sym e)
    (gap_above m j (i * 2 ^ (t - k)) k M
    (λ (g : 0 < k). subst (λ (z : ℕ). 2 ^ (52 + k) ≤ z) e (size_reaches u (52 + k) (full (size u) g)))
    (subst (λ (z : ℕ). z < m * 2 ^ j) e h))

pub before_most : (i t m j : ℕ) → i < 2 ^ 53 → m < 2 ^ 53 → m * 2 ^ j < i * 2 ^ t → m * 2 ^ j ≤ before (i * 2 ^ t)
before_most i t m j I M h =
    let u = i * 2 ^ t in
    let k = size (u - 1) - 53 in
    let e : u ≡ i * 2 ^ (t - k) * 2 ^ k = shifted i t k (fewer (size (u - 1)) t (size-le (u - 1) (53 + t) (lt_of_le_of_lt (sub-le u 1) (shl_lt 53 t I)))) in
    take_off (m * 2 ^ j) (2 ^ k) u
    (subst (λ (z : ℕ). m * 2 ^ j + 2 ^ k ≤ z) (sym e)
    (gap_below m j (i * 2 ^ (t - k)) k M
    (λ (g : 0 < k). subst (λ (z : ℕ). 2 ^ (52 + k) < z) e (less_one u (2 ^ (52 + k)) (pow_pos (52 + k)) (size_reaches (u - 1) (52 + k) (full (size (u - 1)) g))))
    (subst (λ (z : ℕ). m * 2 ^ j < z) e h)))
