-- Decoding, from document 01's paragraph on it. Assumes nothing.
use Rattle.std.specs.Prelude.{cond, List, [], ◌∷◌, ◌++◌, ℕ, zero, suc, ◌-◌, Float}
use Rattle.std.specs.Float.Ieee.{le}
use Rattle.best_path.specs.Scores.{Scores, extended}

-- the last of 0 to n at which g is largest: "The last equal candidate wins, and +0 equals −0"
unfoldable pub last_largest : (ℕ → Float) → ℕ → ℕ
last_largest g zero = zero
last_largest g (suc n) = let k = last_largest g n in cond (le (g k) (g (suc n))) (suc n) k

-- the highest label
abbrev pub highest : Scores → ℕ
highest s = s.labels - 1

-- "Decode starts from the first word's states. A later candidate is (best of previous + transition) + state, and each later best is the largest of its candidates, compared after the state is added"
unfoldable pub best : Scores → ℕ → ℕ → Float
best s zero label = s.state 0 label
best s (suc word) label =
    let candidate : ℕ → Float = λ previous. extended s (best s word previous) previous (suc word) label in
    candidate (last_largest candidate (highest s))

-- the step back: the label of `word` from which the next word's label has its best
unfoldable pub back : Scores → ℕ → ℕ → ℕ
back s word label = last_largest (λ previous. extended s (best s word previous) previous (suc word) label) (highest s)

-- the path that the steps back give for the words 0 to `word`, ending in a label
unfoldable pub path_to : Scores → ℕ → ℕ → List ℕ
path_to s zero label = label ∷ []
path_to s (suc word) label = path_to s word (back s word label) ++ (label ∷ [])

-- the last label of a line: the last of those with the largest final score
unfoldable pub last_label : Scores → ℕ → ℕ
last_label s words = last_largest (best s (words - 1)) (highest s)

-- "The answer is the path and its rounded sum"
unfoldable pub decoded_path : Scores → ℕ → List ℕ
decoded_path s words = path_to s (words - 1) (last_label s words)

unfoldable pub decoded_sum : Scores → ℕ → Float
decoded_sum s words = best s (words - 1) (last_label s words)
