-- The literals 0.0 and 1.0 of the code are +0 and one. Assumes nothing.
use mathlib.Core.Path.{◌≡◌, refl}
use lib.Ieee.{binary64, of_bits, of_int}
use Rattle.binary64.specs.Numbers.{nought, whole}

pub literal_nought : of_bits binary64 0 ≡ nought
unfolding of_bits
literal_nought = refl

pub literal_one : of_bits binary64 0x3FF0000000000000 ≡ whole 1
unfolding of_bits of_int
literal_one = refl
