-- `answer_line::put_digits` meets its contract. The loop's invariant: storing the digits that are left before those stored gives all of them. Assumes nothing.
use mathlib.Core.Path.{◌∙◌}
use native.Mathlib.Omega.{arith}
use Rattle.answer_line.proofs.Laws.{digit_below, digits_more, digits_end, length_digits}
use Rattle.answer_line.proofs.put_digits.Goals as goal

pub digit-requires : goal.digit-requires
digit-requires c = digit_below _ _ (omega arith) (omega arith)

pub loop-i-preserved : goal.loop-i-preserved
loop-i-preserved c =
    rw c.digit.ensures (digits_more _ _ _ _ _ (omega arith) ∙ c.loop-i.invariant)

pub returns : goal.returns
returns c =
    record { next = rw length_digits; line = digits_end _ _ _ _ _ c.loop-i-test.false ∙ c.loop-i.invariant }
