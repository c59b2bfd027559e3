-- Numbers as text: digits in ASCII, the highest first, and the number that digits stand for. Assumes nothing.
use Rattle.std.specs.Prelude.{ℕ, zero, suc, ◌+◌, ◌-◌, ◌*◌, ◌/◌, ◌%◌, cond, List, [], ◌∷◌, ◌++◌, ltb}

-- a digit below 16 in ASCII: `0` to `9`, then "capital hex digits", `A` to `F`
unfoldable pub digit : ℕ → ℕ
digit d = cond (ltb d 10) (48 + d) (55 + d)

-- the last k digits of n in a base
unfoldable pub digits : ℕ → ℕ → ℕ → List ℕ
digits base zero n = []
digits base (suc k) n = digits base k (n / base) ++ (digit (n % base) ∷ [])

-- how many decimal digits n has, counted up to `most`: one, and one more for each division by ten that leaves something
unfoldable pub places_within : ℕ → ℕ → ℕ
places_within zero n = 0
places_within (suc most) n = cond (ltb n 10) 1 (places_within most (n / 10) + 1)

-- no number of 64 bits has more than 20
unfoldable pub decimal_places : ℕ → ℕ
decimal_places n = places_within 20 n

-- a number of 64 bits in decimal, with no zeros in front
unfoldable pub decimal : ℕ → List ℕ
decimal n = digits 10 (decimal_places n) n

-- ---- reading back

-- the digit that stands in ASCII
unfoldable pub worth : ℕ → ℕ
worth character = cond (ltb character 65) (character - 48) (character - 55)

-- the number that further digits make of the one so far
unfoldable pub read_on : ℕ → ℕ → List ℕ → ℕ
read_on base value [] = value
read_on base value (character ∷ rest) = read_on base (value * base + worth character) rest

-- the number that digits stand for
abbrev pub read_digits : ℕ → List ℕ → ℕ
read_digits base text = read_on base 0 text
