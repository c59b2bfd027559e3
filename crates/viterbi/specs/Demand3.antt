-- Demand 3 about what the call answers. The proof is in proofs/Demand3.
use Rattle.std.specs.Prelude.{◌≡◌, List, ℕ, take, Float}
use Rattle.best_path.specs.Lead.{Lead}
use Rattle.best_path.specs.BestPath.{BestPath}
use Rattle.viterbi.specs.Promise.{Given, Outcome, decoded, said, scores_of, Promised}

-- whatever satisfies the promise and is no refusal has a best path at the front of the buffer, and its rounded sum in the answer
abbrev pub AnswersAreBest : Type 0
AnswersAreBest =
    (given : Given) (before : List ℕ) (outcome : Outcome) → Promised given before outcome →
    (sum : Float) (lead : Lead) → said outcome.answer ≡ decoded sum lead →
    BestPath (scores_of given) given.words (take given.words outcome.path) sum
