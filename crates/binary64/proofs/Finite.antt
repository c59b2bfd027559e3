-- What is finite: by two comparisons with the infinities, and by the exponent's field of a bit pattern. Assumes nothing.
use mathlib.Core.Path.{◌≡◌, refl, sym}
use mathlib.Core.Bool.{Bool, true, false, not, cond, ◌&&◌, true≢false}
use Prim.Native.Nat.{ℕ, zero, suc, ◌+◌, ◌/◌, ◌%◌, ◌^◌}
use lib.Dec.{T, eqb}
use lib.Ieee.{Float, nan, inf, fin, lt, odd, of_fields, of_bits, nan_bits, binary64, hid, prec, low}
use lib.Ieee.Scale.{finite}

pub below : (x : Float) → lt x (inf false) ≡ true → lt (inf true) x ≡ finite x
unfolding lt
below nan h = refl
below (inf true) h = refl
below (inf false) h = sym h
below (fin s m e) h = refl

pub above : (x : Float) → lt x (inf false) ≡ false → false ≡ finite x
unfolding lt
above nan h = refl
above (inf s) h = refl
above (fin s m e) h = sym h

-- ---- by a bit pattern: the eleven bits of the exponent are not all 1
odd_finite : (d : ℕ) (s : Bool) (q k l : ℕ) → finite (odd d s q k l) ≡ true
unfolding odd
odd_finite d s zero k l = refl
odd_finite d s (suc q) k l = refl

pick : (b c s : Bool) (v : Float) → finite v ≡ true → finite (cond b (cond c (inf s) nan) v) ≡ not b
pick true true s v h = refl
pick true false s v h = refl
pick false c s v h = h

fields : (s : Bool) (x t : ℕ) → finite (of_fields binary64 s x t) ≡ not (eqb x 2047)
unfolding of_fields
fields s zero t = odd_finite (prec binary64) s t 0 (low binary64)
fields s (suc x) t = pick (eqb (suc x) 2047) (eqb t 0) s _ (odd_finite (prec binary64) s (hid binary64 + t) x (low binary64))

pub of_pattern : (n : ℕ) → finite (of_bits binary64 n) ≡ not (eqb (n % 2 ^ 63 / 2 ^ 52) 2047)
unfolding of_bits
of_pattern n = fields _ (n % 2 ^ 63 / 2 ^ 52) (n % 2 ^ 52)

no_and : (a b : Bool) → a ≡ false → T (not (a && b))
no_and true b h = absurd (true≢false h)
no_and false b h = tt

-- such a pattern is no NaN's
pub no_nan : (n : ℕ) → eqb (n % 2 ^ 63 / 2 ^ 52) 2047 ≡ false → T (not (nan_bits binary64 n))
unfolding nan_bits
no_nan n h = no_and _ _ h
