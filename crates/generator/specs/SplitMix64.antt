-- SplitMix64 "as in the public-domain splitmix64.c, which decides", on numbers below 2 ^ 64. Assumes nothing.
use Rattle.std.specs.Prelude.{ℕ, ◌+◌, ◌*◌, ◌/◌, ◌%◌, ◌^◌, bit_xor}

-- "Sums and products wrap at 64 bits"
abbrev pub wrapped : ℕ → ℕ → ℕ
wrapped a b = (a * b) % 2 ^ 64

-- z ^ (z >> k)
abbrev pub folded : ℕ → ℕ → ℕ
folded k z = bit_xor z (z / 2 ^ k)

-- the state after a draw: "constants 9E3779B97F4A7C15"
abbrev pub advanced : ℕ → ℕ
advanced state = (state + 0x9E3779B97F4A7C15) % 2 ^ 64

-- what is drawn at a state that was advanced: "BF58476D1CE4E5B9, 94D049BB133111EB; shifts 30, 27, 31"
abbrev pub mixed : ℕ → ℕ
mixed z = folded 31 (wrapped (folded 27 (wrapped (folded 30 z) 0xBF58476D1CE4E5B9)) 0x94D049BB133111EB)
