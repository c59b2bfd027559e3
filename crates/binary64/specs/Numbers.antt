-- Numbers that document 01 names. Assumes nothing.
use Rattle.std.specs.Prelude.{ℕ, pos, false, Float}
use Rattle.std.specs.Float.{fin, binary64}
use Rattle.std.specs.Float.Ieee.{of_int}

-- +0
abbrev pub nought : Float
nought = fin false 0 (pos 0)

-- a whole number as a binary64
abbrev pub whole : ℕ → Float
whole n = of_int binary64 (pos n)
