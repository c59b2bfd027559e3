-- `last_largest` meets its contract. The loop's invariant: of the labels passed, the last with the largest score, and that score. Assumes nothing.
use mathlib.Core.Path.{◌≡◌}
use Rattle.viterbi_end.specs.Rival.{score_at}
use Rattle.viterbi_end.specs.Ends.{last_of}
use Rattle.viterbi_end.proofs.last_largest.Given as goal

abbrev pub invariant-loop-label : goal.invariant-loop-label
invariant-loop-label l =
    (l.score ≡ score_at l.row (last_of l.row l.label)) × (l.last ≡ last_of l.row l.label)
