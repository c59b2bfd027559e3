-- `rival` meets its contract. The loop's invariant: the score is the largest of the other labels passed. Assumes nothing.
use mathlib.Core.Path.{◌≡◌}
use Prim.Native.Nat.{ℕ, ◌-◌}
use lib.Ieee.{Float}
use Rattle.best_path.specs.Decoded.{last_largest}
use Rattle.best_path.specs.Lead.{other}
use Rattle.viterbi_end.specs.Rival.{score_at}
use Rattle.viterbi_end.proofs.rival.Given as goal

abbrev pub invariant-loop-k : goal.invariant-loop-k
invariant-loop-k l =
    let g : ℕ → Float = λ j. score_at l.row (other l.last j) in
    l.score ≡ g (last_largest g (l.k - 1))
