-- `keep_steps` meets its contract. The loop's invariant: the labels passed have their mark in its place. Assumes nothing.
use mathlib.Core.Path.{◌≡◌}
use lib.ListN.{get_or}
use Rattle.viterbi_steps.specs.Written.{written}
use Rattle.viterbi_steps.proofs.keep_steps.Given as goal

abbrev pub invariant-loop-label : goal.invariant-loop-label
invariant-loop-label l = l.steps ≡ written l.at (λ k. get_or l.from k 0) l.label l.initial.steps
