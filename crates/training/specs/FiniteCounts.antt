-- What finite weights tell of the counts: each of the three updates adds to every weight a product in which true count minus predicted count is a factor, and a sum, a difference or a product is finite only where both of its numbers are. The proof is in proofs/FiniteCounts.
use Rattle.std.specs.Prelude.{◌≡◌, true, ◌&&◌, ℕ}
use Rattle.fronts.specs.Finite.{all_finite_of}
use Rattle.training.specs.Rules.{Rule, Learned, Mistake, updated_by}

-- where all weights are finite after an update, all true and all predicted counts are: the update need not wait for 8 to look at them
abbrev pub WeightsTellCounts : Type 0
WeightsTellCounts =
    (rule : Rule) (features : ℕ) (k : Mistake) (s : Learned)
    → all_finite_of (updated_by rule features k s).learned.weights features ≡ true
    → all_finite_of k.truly features && all_finite_of k.predicted features ≡ true
