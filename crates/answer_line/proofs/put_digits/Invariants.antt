-- `answer_line::put_digits` meets its contract. The loop's invariant: storing the digits that are left before those stored gives all of them. Assumes nothing.
use mathlib.Core.Path.{◌≡◌}
use Rattle.byte_buffers.specs.Stored.{stored}
use Rattle.answer_line.specs.Digits.{digits}
use Rattle.answer_line.proofs.put_digits.Given as goal

abbrev pub invariant-loop-i : goal.invariant-loop-i
invariant-loop-i l = (stored l.line l.at (digits l.base l.i l.rest) ≡ stored l.initial.line l.at (digits l.base l.k l.n))
