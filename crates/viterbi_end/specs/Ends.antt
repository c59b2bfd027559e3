-- The end of decoding, over the last row of best scores and the steps back: the path walked, the last label, its sum and its lead. Assumes nothing.
use Rattle.std.specs.Prelude.{◌≡◌, cond, List, ◌++◌, ℕ, ◌-◌, ltb, drop, Float, Some, None, Option}
use Rattle.best_path.specs.Decoded.{last_largest}
use Rattle.best_path.specs.Lead.{Lead, none, by, lead_between}
use Rattle.viterbi_end.specs.Rival.{score_at, rival_of}
use Rattle.viterbi_end.specs.Walked.{walked}
use Rattle.viterbi_end.specs.declared.Found.{Found}

-- what the code's lead says: "no lead", or a lead by so much
abbrev pub lead_said : Option Float → Lead
lead_said None = none
lead_said (Some x) = by x

-- the last label that a row of so many labels gives
abbrev pub last_of : List Float → ℕ → ℕ
last_of row n = last_largest (score_at row) (n - 1)

-- "with L at least 2, the best final score minus the largest final score at any other last label"
abbrev pub lead_in_row : List Float → ℕ → ℕ → Lead
lead_in_row row n last = cond (ltb 1 n) (lead_between (score_at row last) (rival_of row n last)) none

-- what it gives: the path is walked back from the last label, and what lies after it in the buffer stays
pub record Ended (row : List Float) (n words : ℕ) (steps before : List ℕ) (found : Found) (after : List ℕ) : Type 0 where
  pub sum : found.sum ≡ score_at row (last_of row n)
  pub lead : lead_said found.lead ≡ lead_in_row row n (last_of row n)
  pub path : after ≡ walked steps n (words - 1) (last_of row n) ++ drop words before
