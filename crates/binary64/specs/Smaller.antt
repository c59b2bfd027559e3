-- The smaller of two numbers, as the passive-aggressive step takes it. Assumes nothing.
use Rattle.std.specs.Prelude.{cond, ◌||◌, Float}
use Rattle.std.specs.Float.Ieee.{lt, is_nan}

-- "c where x is a NaN or c < x, else x to the bit"
abbrev pub smaller : Float → Float → Float
smaller c x = cond (is_nan x || lt c x) c x
