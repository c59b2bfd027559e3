-- What is not claimed of a decoded path. "Claiming the last of all best paths: rounding lets a poorer prefix tie later." The claim is stated here, and refuted in proofs/NotLastOfAll by the scores below.
use Rattle.std.specs.Prelude.{false, List, [], ◌∷◌, ℕ, ◌<◌, pos, Float}
use Rattle.std.specs.Float.{fin}
use Rattle.binary64.specs.Numbers.{nought}
use Rattle.best_path.specs.Scores.{Scores, tabled, AllFinite, Allowed}
use Rattle.best_path.specs.Decoded.{decoded_path}
use Rattle.best_path.specs.BestPath.{NoneLarger, NotLater}

-- the last of all the paths that have the largest sum, poor prefixes or not
abbrev pub LastOfAll : Scores → ℕ → List ℕ → Type 0
LastOfAll s words path = (q : List ℕ) → Allowed s words q → NoneLarger s words q → NotLater words q path

abbrev pub DecodedIsLastOfAll : Type 0
DecodedIsLastOfAll = (s : Scores) (words : ℕ) → 0 < s.labels → 0 < words → AllFinite s words → LastOfAll s words (decoded_path s words)

-- L = 2, T = 3, transitions all 0, states 1,0 / 0,0 / 2^60,2^60: decoded 0,1,1; but 1,1,1 is later, and has the same rounded sum, since 2^60 + 1 rounds to 2^60
abbrev pub transitions : List Float
transitions = nought ∷ nought ∷ nought ∷ nought ∷ []

abbrev pub states : List Float
states = fin false 1 (pos 0) ∷ nought ∷ nought ∷ nought ∷ fin false 1 (pos 60) ∷ fin false 1 (pos 60) ∷ []

abbrev pub swallowing : Scores
swallowing = tabled 2 transitions states
