-- How many labels of a path are wrong. Assumes nothing.
use Rattle.std.specs.Prelude.{cond, List, ℕ, ◌+◌, eqb, get_or}
use Rattle.lines.specs.Passes.{through}

-- in how many of so many words two paths differ
unfoldable pub wrong_at : List ℕ → List ℕ → ℕ → ℕ → ℕ
wrong_at p q word n = cond (eqb (get_or p word 0) (get_or q word 0)) n (n + 1)

unfoldable pub wrong_of : List ℕ → List ℕ → ℕ → ℕ
wrong_of p q words = through (wrong_at p q) 0 words 0
