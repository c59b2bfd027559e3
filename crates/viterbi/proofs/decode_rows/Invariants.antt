-- `decode_rows` meets its contract. The loop's invariant: the words up to the one at hand are done. Assumes nothing.
use mathlib.Core.Path.{◌≡◌}
use Prim.Native.Nat.{◌-◌, ◌<◌}
use lib.ListN.{length}
use Rattle.refusals.specs.Bounds.{the_labels, most}
use Rattle.viterbi.proofs.Laws.{Done}
use Rattle.viterbi.proofs.decode_rows.Given as goal

abbrev pub invariant-loop-word : goal.invariant-loop-word
invariant-loop-word l =
    (l.word < l.words) × (length l.steps ≡ length l.initial.steps) × (length l.other.best ≡ most the_labels) × Done l.n l.word l.transitions l.states l.row.best l.steps

abbrev pub decreases-loop-word : goal.decreases-loop-word
decreases-loop-word l = l.words - l.word
