-- `best_step` meets its contract. The loop's invariant: the score and its origin are those chosen of the candidates passed. Assumes nothing.
use mathlib.Core.Path.{◌≡◌}
use Prim.Native.Nat.{◌+◌, ◌-◌, ◌*◌}
use Rattle.best_path.specs.Decoded.{last_largest}
use Rattle.viterbi_steps.specs.Chosen.{candidate}
use Rattle.viterbi_steps.proofs.best_step.Given as goal

abbrev pub invariant-loop-tried : goal.invariant-loop-tried
invariant-loop-tried l =
    let g = candidate l.n l.transitions l.row l.label l.state in
    (l.at ≡ l.tried * l.n + l.label) × (l.score ≡ g (last_largest g (l.tried - 1))) × (l.previous ≡ last_largest g (l.tried - 1))
