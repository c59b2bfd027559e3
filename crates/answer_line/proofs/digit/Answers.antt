-- `answer_line::digit` meets its contract. Assumes nothing.
use native.Mathlib.Omega.{arith}
use borrow.Author.Tests.{lt-ltb, le-ltb}
use Rattle.answer_line.specs.Digits.{digit}
use Rattle.answer_line.proofs.digit.Goals as goal

pub returns-then-d-lt10 : goal.returns-then-d-lt10
unfolding digit
returns-then-d-lt10 c = rw (lt-ltb _ _ c.if-d-lt10.true)

pub returns-else-d-lt10 : goal.returns-else-d-lt10
unfolding digit
returns-else-d-lt10 c = rw (le-ltb _ _ c.if-d-lt10.false) (omega arith)
