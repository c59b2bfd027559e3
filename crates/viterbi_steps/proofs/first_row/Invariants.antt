-- `first_row` meets its contract. The loop's invariant: the labels passed have their state score. Assumes nothing.
use mathlib.Core.Path.{◌≡◌}
use lib.ListN.{get_or, replicate}
use lib.Ieee.{nan, of_bits, binary64}
use Rattle.refusals.specs.Bounds.{the_labels, most}
use Rattle.viterbi_steps.specs.Written.{written}
use Rattle.viterbi_steps.proofs.first_row.Given as goal

abbrev pub invariant-loop-label : goal.invariant-loop-label
invariant-loop-label l = (l.row.width ≡ l.n) × (l.row.best ≡ written 0 (λ k. get_or l.states k nan) l.label (replicate (most the_labels) (of_bits binary64 0)))
