-- Exact numbers: every finite binary64 is a whole multiple of the smallest one, 2^-1074. Assumes nothing.
use Rattle.std.specs.Prelude.{◌≡◌, Bool, false, not, ◌&&◌, ℕ, ◌*◌, ◌^◌, Float}
use Rattle.std.specs.Float.{nan, inf, fin, binary64}
use Rattle.std.specs.Float.Ieee.{fits, low}
use Rattle.std.specs.Float.Ieee.Positive.{num, den}

-- a finite binary64 with the sign +; of the two zeros it is +0
abbrev pub plain : Float → Bool
plain nan = false
plain (inf s) = false
plain (fin s m e) = not s && fits binary64 (fin s m e)

-- how many units 1 is
unfoldable pub units_in_one : ℕ
units_in_one = 2 ^ low binary64

-- x, the fraction num x / den x, is u units
abbrev pub Units : Float → ℕ → Type 0
Units x u = num x * units_in_one ≡ u * den x
