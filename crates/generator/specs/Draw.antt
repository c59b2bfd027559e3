-- A draw, in two definitions: the state that it leaves and the number that it gives. "The shuffle is SplitMix64"; "The state starts at the seed". Assumes nothing.
use Rattle.std.specs.Prelude.{ℕ}
use Rattle.generator.specs.SplitMix64.{advanced, mixed}

-- the state after a draw, from which the next draw starts: "The generator's state goes from epoch to epoch"
abbrev pub next : ℕ → ℕ
next state = advanced state

-- the draw of "swap i with draw mod (i+1)": mixed from the state that it leaves
abbrev pub number : ℕ → ℕ
number state = mixed (next state)
