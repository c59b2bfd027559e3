-- Document 01's worked line and a refusal's, computed. Assumes nothing.
use Rattle.std.specs.Prelude.{◌≡◌, refl, true, false, [], ◌∷◌, pos}
use Rattle.std.specs.Float.{fin, inf}
use Rattle.std.specs.Float.Ieee.{to_bits}
use Rattle.answer_line.specs.Digits.{digit, digits, places_within, decimal_places, decimal}
use Rattle.answer_line.specs.Line.{further_labels, joined_labels, path_line_of, refused_line_of}

-- P4, path 0,1 with the sum 3: `PATH 4008000000000000 0,1`
path_line_lem : path_line_of (fin false 3 (pos 0)) (0 ∷ 1 ∷ []) ≡ 80 ∷ 65 ∷ 84 ∷ 72 ∷ 32 ∷ 52 ∷ 48 ∷ 48 ∷ 56 ∷ 48 ∷ 48 ∷ 48 ∷ 48 ∷ 48 ∷ 48 ∷ 48 ∷ 48 ∷ 48 ∷ 48 ∷ 48 ∷ 48 ∷ 32 ∷ 48 ∷ 44 ∷ 49 ∷ 10 ∷ []
unfolding path_line_of joined_labels further_labels decimal decimal_places places_within digits digit to_bits
path_line_lem = refl

-- capital letters, and a label of two digits: `PATH FFF0000000000000 31`
least_line : path_line_of (inf true) (31 ∷ []) ≡ 80 ∷ 65 ∷ 84 ∷ 72 ∷ 32 ∷ 70 ∷ 70 ∷ 70 ∷ 48 ∷ 48 ∷ 48 ∷ 48 ∷ 48 ∷ 48 ∷ 48 ∷ 48 ∷ 48 ∷ 48 ∷ 48 ∷ 48 ∷ 48 ∷ 32 ∷ 51 ∷ 49 ∷ 10 ∷ []
unfolding path_line_of joined_labels further_labels decimal decimal_places places_within digits digit to_bits
least_line = refl

-- `REFUSED 10 0`
refused_line_lem : refused_line_of 10 0 ≡ 82 ∷ 69 ∷ 70 ∷ 85 ∷ 83 ∷ 69 ∷ 68 ∷ 32 ∷ 49 ∷ 48 ∷ 32 ∷ 48 ∷ 10 ∷ []
unfolding refused_line_of decimal decimal_places places_within digits digit
refused_line_lem = refl
