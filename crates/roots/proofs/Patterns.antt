-- The plain values are those of the bit patterns below that of +infinity. Assumes nothing.
use mathlib.Core.Path.{◌≡◌, refl, sym, ap, ◌∙◌, subst}
use mathlib.Core.Bool.{Bool, true, false, not, cond}
use Prim.Native.Nat.{ℕ, zero, suc, ◌+◌, ◌/◌, ◌%◌, ◌^◌, ◌≤◌, ◌<◌}
use native.Mathlib.Nat.{lt_irrefl, lt_of_not-le, lt_of_lt_of_le, mod-eq_of_lt}
use native.Mathlib.Omega.{arith}
use lib.Dec.{T, leb, eqb, eqb→eq, nleb→lt, lit≤}
use lib.Arith.{lt→nleb}
use lib.Ieee.{Float, nan, inf, fin, binary64, fits, odd, of_fields, of_bits, to_bits}
use lib.Ieee.Bits.{of_bits-fits, of_bits-to_bits, is_false}
use Rattle.binary64.specs.Units.{plain}
use Rattle.roots.specs.Root.{EveryPattern}
use Rattle.binary64.proofs.Units.{held}

-- finite with the sign +, whatever holds it
abbrev good : Float → Bool
good nan = false
good (inf s) = false
good (fin s m e) = not s

plain_of : (x : Float) → T (good x) → T (fits binary64 x) → T (plain x)
plain_of nan g f = g
plain_of (inf s) g f = g
plain_of (fin true m e) g f = absurd g
plain_of (fin false m e) g f = f

good_of : (x : Float) → T (plain x) → T (good x)
good_of nan t = t
good_of (inf s) t = t
good_of (fin true m e) t = absurd t
good_of (fin false m e) t = tt

-- ---- by the fields of a pattern: the sign, the exponent's field x and the digits t
odd_good : (s : Bool) (q k : ℕ) → good (odd 53 s q k 1074) ≡ not s
unfolding odd
odd_good s zero k = refl
odd_good s (suc q) k = refl

low_good : (x t : ℕ) → x < 2047 → T (good (of_fields binary64 false x t))
unfolding of_fields
low_good zero t h = subst T (sym (odd_good false t 0)) tt
low_good (suc x) t h = go (eqb (suc x) 2047) (eqb→eq (suc x) 2047)
  where
    go : (b : Bool) → (T b → suc x ≡ 2047) → T (good (cond b (cond (eqb t 0) (inf false) nan) (odd 53 false (2 ^ 52 + t) x 1074)))
    go true e = absurd (lt_irrefl 2047 (subst (λ (z : ℕ). z < 2047) (e tt) h))
    go false e = subst T (sym (odd_good false (2 ^ 52 + t) x)) tt

no_good : (a b : Bool) (s : Bool) (v : Float) → good v ≡ false → T (good (cond a (cond b (inf s) nan) v)) → ⊥
no_good true true s v e g = g
no_good true false s v e g = g
no_good false b s v e g = subst T e g

minus_bad : (x t : ℕ) → T (good (of_fields binary64 true x t)) → ⊥
unfolding of_fields
minus_bad zero t g = subst T (odd_good true t 0) g
minus_bad (suc x) t g = no_good (eqb (suc x) 2047) (eqb t 0) true (odd 53 true (2 ^ 52 + t) x 1074) (odd_good true (2 ^ 52 + t) x) g

top_bad : (x t : ℕ) → x ≡ 2047 → T (good (of_fields binary64 false x t)) → ⊥
top_bad x t e g = at t (subst (λ (z : ℕ). T (good (of_fields binary64 false z t))) e g)
  where
    none : (b : Bool) → T (good (cond b (inf false) nan)) → ⊥
    none true g = g
    none false g = g

    at : (t : ℕ) → T (good (of_fields binary64 false 2047 t)) → ⊥
    at t g = unfold of_fields in none (eqb t 0) g

-- ---- by the pattern
read : (b : ℕ) → of_bits binary64 b ≡ of_fields binary64 (leb (2 ^ 63) b) (b % 2 ^ 63 / 2 ^ 52) (b % 2 ^ 52)
unfolding of_bits
read b = refl

-- without the sign's bit
read_plus : (b : ℕ) → b < 2 ^ 63 → of_bits binary64 b ≡ of_fields binary64 false (b / 2 ^ 52) (b % 2 ^ 52)
read_plus b h =
    read b
    ∙ ap (λ (s : Bool). of_fields binary64 s (b % 2 ^ 63 / 2 ^ 52) (b % 2 ^ 52)) (is_false (leb (2 ^ 63) b) (lt→nleb (2 ^ 63) b h))
    ∙ ap (λ (r : ℕ). of_fields binary64 false (r / 2 ^ 52) (b % 2 ^ 52)) (mod-eq_of_lt h)

field_low : (b : ℕ) → b < 0x7FF0000000000000 → b / 2 ^ 52 < 2047
field_low b h = omega arith

field_top : (b : ℕ) → 0x7FF0000000000000 ≤ b → b < 2 ^ 63 → b / 2 ^ 52 ≡ 2047
field_top b h l = omega arith

pattern_good : (b : ℕ) → b < 0x7FF0000000000000 → T (good (of_bits binary64 b))
pattern_good b h = subst (λ (x : Float). T (good x)) (sym (read_plus b (lt_of_lt_of_le h (lit≤ tt)))) (low_good (b / 2 ^ 52) (b % 2 ^ 52) (field_low b h))

pattern_bad : (b : ℕ) → 0x7FF0000000000000 ≤ b → T (good (of_bits binary64 b)) → ⊥
pattern_bad b h g = go (leb (2 ^ 63) b) refl (nleb→lt (2 ^ 63) b)
  where
    go : (s : Bool) → leb (2 ^ 63) b ≡ s → (T (not s) → b < 2 ^ 63) → ⊥
    go true e l = minus_bad (b % 2 ^ 63 / 2 ^ 52) (b % 2 ^ 52) (subst (λ (x : Float). T (good x)) (read b ∙ ap (λ (s : Bool). of_fields binary64 s (b % 2 ^ 63 / 2 ^ 52) (b % 2 ^ 52)) e) g)
    go false e l = top_bad (b / 2 ^ 52) (b % 2 ^ 52) (field_top b h (l tt)) (subst (λ (x : Float). T (good x)) (read_plus b (l tt)) g)

pub every_pattern : EveryPattern
every_pattern = record {
  of_pattern = λ b h. plain_of (of_bits binary64 b) (pattern_good b h) (of_bits-fits binary64 b);
  to_pattern = λ x t.
      let e : of_bits binary64 (to_bits binary64 x) ≡ x = of_bits-to_bits binary64 x (held x t) in
      (lt_of_not-le (λ h. pattern_bad (to_bits binary64 x) h (subst (λ (y : Float). T (good y)) (sym e) (good_of x t))), e);
}
