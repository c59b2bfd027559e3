-- The scores of a row, and the largest at any other last label. Assumes nothing.
use Rattle.std.specs.Prelude.{List, ℕ, ◌-◌, get_or, Float}
use Rattle.std.specs.Float.{nan}
use Rattle.best_path.specs.Decoded.{last_largest}
use Rattle.best_path.specs.Lead.{other}

-- the score of a label in a row
abbrev pub score_at : List Float → ℕ → Float
score_at row label = get_or row label nan

-- "the largest final score at any other last label"
abbrev pub rival_of : List Float → ℕ → ℕ → Float
rival_of row n last = let g : ℕ → Float = λ k. score_at row (other last k) in g (last_largest g (n - 2))
