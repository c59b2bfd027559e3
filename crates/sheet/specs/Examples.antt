-- Document 01's case P4 as a file, computed. Assumes nothing.
use Rattle.std.specs.Prelude.{◌≡◌, refl, false, [], ◌∷◌, pos, length, take}
use Rattle.std.specs.Float.{fin}
use Rattle.std.specs.Float.Ieee.{to_bits}
use Rattle.binary64.specs.Numbers.{nought}
use Rattle.sheet.specs.File.{Sheet, little_endian, number_bytes, encoded}

-- "P4: L=2, T=2, states 1,0 / 0,0, transitions 0,2 / 0,0"
abbrev p4 : Sheet
p4 = record {
  labels = 2;
  words = 2;
  transitions = nought ∷ fin false 1 (pos 1) ∷ nought ∷ nought ∷ [];
  states = fin false 1 (pos 0) ∷ nought ∷ nought ∷ nought ∷ [];
}

-- "For case P4 the input has 72 bytes"
long : length (encoded p4) ≡ 72
unfolding encoded number_bytes little_endian to_bits
long = refl

-- "the head being `54 4C 47 01 00 02 02 00`"
head : take 8 (encoded p4) ≡ 0x54 ∷ 0x4C ∷ 0x47 ∷ 0x01 ∷ 0x00 ∷ 0x02 ∷ 0x02 ∷ 0x00 ∷ []
unfolding encoded number_bytes little_endian to_bits
head = refl
