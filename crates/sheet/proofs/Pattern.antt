-- A finite number is no NaN, and its pattern is no NaN's. Assumes nothing.
use mathlib.Core.Path.{◌≡◌}
use mathlib.Core.Bool.{true, not, false≢true}
use Prim.Native.Nat.{ℕ}
use lib.Dec.{T}
use lib.Ieee.{Float, nan, inf, fin, of_bits, nan_bits, is_nan, binary64}
use lib.Ieee.Bits.{nan_bits_is}
use lib.Ieee.Scale.{finite}

pub no_nan : (x : Float) → finite x ≡ true → T (not (is_nan x))
unfolding is_nan
no_nan nan h = absurd (false≢true h)
no_nan (inf s) h = tt
no_nan (fin s m e) h = tt

pub pattern_number : (n : ℕ) → finite (of_bits binary64 n) ≡ true → T (not (nan_bits binary64 n))
pattern_number n h = rw (nan_bits_is binary64 n) (no_nan (of_bits binary64 n) h)
