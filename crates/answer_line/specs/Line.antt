-- The line that the program prints, from document 01, "The sheet file". Assumes nothing.
use Rattle.std.specs.Prelude.{ℕ, List, [], ◌∷◌, ◌++◌, Float}
use Rattle.std.specs.Float.{binary64}
use Rattle.std.specs.Float.Ieee.{to_bits}
use Rattle.answer_line.specs.Digits.{digits, decimal}

abbrev pub space : ℕ
space = 32

abbrev pub comma : ℕ
comma = 44

abbrev pub line_feed : ℕ
line_feed = 10

-- `PATH` and `REFUSED`, each with the space after it
abbrev pub path_word : List ℕ
path_word = 80 ∷ 65 ∷ 84 ∷ 72 ∷ space ∷ []

abbrev pub refused_word : List ℕ
refused_word = 82 ∷ 69 ∷ 70 ∷ 85 ∷ 83 ∷ 69 ∷ 68 ∷ space ∷ []

-- "the sum's bits in 16 capital hex digits"
abbrev pub sum_digits : Float → List ℕ
sum_digits sum = digits 16 16 (to_bits binary64 sum)

-- each label with a comma before it
unfoldable pub further_labels : List ℕ → List ℕ
further_labels [] = []
further_labels (label ∷ labels) = (comma ∷ decimal label) ++ further_labels labels

-- "labels joined by commas"
unfoldable pub joined_labels : List ℕ → List ℕ
joined_labels [] = []
joined_labels (label ∷ labels) = decimal label ++ further_labels labels

-- "`PATH`, the sum's bits in 16 capital hex digits, labels joined by commas; .. single spaces between, a line feed at the end"
unfoldable pub path_line_of : Float → List ℕ → List ℕ
path_line_of sum labels = path_word ++ (sum_digits sum ++ (space ∷ (joined_labels labels ++ (line_feed ∷ []))))

-- "`REFUSED`, number, place; single spaces between, a line feed at the end"
unfoldable pub refused_line_of : ℕ → ℕ → List ℕ
refused_line_of number place = refused_word ++ (decimal number ++ (space ∷ (decimal place ++ (line_feed ∷ []))))

-- room for the longest line of a path, `Longest` in specs/Claims
abbrev pub path_room : ℕ
path_room = 406
