-- `seed_row` meets its contract. The loop's invariant: the labels passed have their candidate. Assumes nothing.
use mathlib.Core.Path.{◌≡◌}
use Rattle.viterbi_steps.specs.Written.{written}
use Rattle.viterbi_steps.specs.Rows.{onward}
use Rattle.viterbi_steps.proofs.seed_row.Given as goal

abbrev pub invariant-loop-label : goal.invariant-loop-label
invariant-loop-label l = l.next ≡ written 0 (onward l.score l.transitions 0 l.states l.at) l.label l.initial.next
