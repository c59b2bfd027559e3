-- Demand 3 as theorems: the decoded path with its sum is best, and nothing else is. The proofs are in proofs/Demand3 and proofs/OnlyOne.
use Rattle.std.specs.Prelude.{◌≡◌, List, ℕ, ◌<◌, Float}
use Rattle.best_path.specs.Scores.{Scores, AllFinite}
use Rattle.best_path.specs.Decoded.{decoded_path, decoded_sum}
use Rattle.best_path.specs.BestPath.{BestPath}

-- no better reading was passed over: for all finite score tables, with L and T at least 1
abbrev pub DecodedIsBest : Type 0
DecodedIsBest = (s : Scores) (words : ℕ) → 0 < s.labels → 0 < words → AllFinite s words → BestPath s words (decoded_path s words) (decoded_sum s words)

-- a tie has one answer
abbrev pub OnlyOneBest : Type 0
OnlyOneBest = (s : Scores) (words : ℕ) (p q : List ℕ) (x y : Float) → BestPath s words p x → BestPath s words q y → (p ≡ q) × (x ≡ y)
