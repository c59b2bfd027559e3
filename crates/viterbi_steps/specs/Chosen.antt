-- The candidates for a label of a word, and the one chosen of them. Assumes nothing.
use Rattle.std.specs.Prelude.{List, ℕ, ◌+◌, ◌-◌, ◌*◌, get_or, Float}
use Rattle.std.specs.Float.{nan, binary64}
use Rattle.std.specs.Float.Ieee.{add}
use Rattle.best_path.specs.Decoded.{last_largest}
use Rattle.viterbi_steps.specs.declared.Choice.{Choice}

-- "A later candidate is (best of previous + transition) + state": for one label, by the label of the word before
abbrev pub candidate : ℕ → List Float → List Float → ℕ → Float → ℕ → Float
candidate n transitions row label state previous =
    add binary64 (add binary64 (get_or row previous nan) (get_or transitions (previous * n + label) nan)) state

-- "each later best is the largest of its candidates": the one chosen of n, and where it comes from
abbrev pub choice_of : (ℕ → Float) → ℕ → Choice
choice_of candidates n = record { score = candidates (last_largest candidates (n - 1)); previous = last_largest candidates (n - 1) }
