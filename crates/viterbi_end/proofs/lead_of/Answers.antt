-- `lead_of` meets its contract. Assumes nothing.
use native.Mathlib.Omega.{arith}
use borrow.Author.Tests.{lt-ltb, le-ltb}
use Rattle.viterbi_end.proofs.lead_of.Goals as goal

pub returns-then-n-gt1 : goal.returns-then-n-gt1
returns-then-n-gt1 c = rw (lt-ltb 1 c.args.n (omega arith), ← c.rival.ensures) c.lead_by.ensures

pub returns-else-n-gt1 : goal.returns-else-n-gt1
returns-else-n-gt1 c = rw (le-ltb 1 c.args.n (omega arith))
