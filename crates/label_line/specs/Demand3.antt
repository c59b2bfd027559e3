-- Demand 3 about what the call answers: 8 has seen to it that the scores are finite. The proof is in proofs/Demand3.
use Rattle.std.specs.Prelude.{◌≡◌, List, ℕ, take, Float}
use Rattle.best_path.specs.Lead.{Lead}
use Rattle.best_path.specs.BestPath.{BestPath}
use Rattle.viterbi.specs.Promise.{decoded, said}
use Rattle.compute_scores.specs.Promise.{Given}
use Rattle.label_line.specs.Promise.{Outcome, scores_of_line, Promised}

-- whatever satisfies the promise and is no refusal has a best path of the line's scores at the front of the buffer, and its rounded sum in the answer
abbrev pub AnswersAreBest : Type 0
AnswersAreBest =
    (given : Given) (before : List ℕ) (outcome : Outcome) → Promised given before outcome →
    (sum : Float) (lead : Lead) → said outcome.answer ≡ decoded sum lead →
    BestPath (scores_of_line given) given.words (take given.words outcome.path) sum
