-- `other_label` meets its contract. Assumes nothing.
use borrow.Author.Tests.{lt-ltb, le-ltb}
use native.Mathlib.Numerals.{add-one}
use native.Mathlib.Omega.{arith}
use Rattle.viterbi_end.proofs.other_label.Goals as goal

pub returns-then-k-last : goal.returns-then-k-last
returns-then-k-last c = rw (lt-ltb c.args.k c.args.last (omega arith))

pub returns-else-k-last : goal.returns-else-k-last
returns-else-k-last c = rw (le-ltb c.args.k c.args.last (omega arith)) (add-one _)
