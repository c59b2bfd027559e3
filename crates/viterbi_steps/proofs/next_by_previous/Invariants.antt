-- `next_by_previous` meets its contract. The loop's invariant: of the labels of the word before that are passed, the row has the best candidates, and the marks say whence. Assumes nothing.
use mathlib.Core.Path.{◌≡◌}
use Prim.Native.Nat.{◌*◌}
use Rattle.viterbi_steps.proofs.Laws.{Tried}
use Rattle.viterbi_steps.proofs.next_by_previous.Given as goal

abbrev pub invariant-loop-previous : goal.invariant-loop-previous
invariant-loop-previous l =
    (l.base ≡ l.previous * l.n) × Tried l.n l.at l.transitions l.states l.row l.initial.next l.next l.from l.previous
