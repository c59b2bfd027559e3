-- `next_by_label` meets its contract. The loop's invariant: the labels passed have their best score and their step back. Assumes nothing.
use mathlib.Core.Path.{◌≡◌}
use Prim.Native.Nat.{◌+◌}
use Rattle.best_path.specs.Scores.{tabled}
use Rattle.best_path.specs.Decoded.{best, back}
use Rattle.viterbi_steps.specs.Written.{written}
use Rattle.viterbi_steps.proofs.next_by_label.Given as goal

abbrev pub invariant-loop-label : goal.invariant-loop-label
invariant-loop-label l =
    let s = tabled l.n l.transitions l.states in
    (l.next ≡ written 0 (best s (l.word + 1)) l.label l.initial.next) × (l.steps ≡ written l.at (back s l.word) l.label l.initial.steps)
