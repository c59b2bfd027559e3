-- `answer_line::put_decimal` meets its contract. Assumes nothing.
use native.Mathlib.Omega.{arith}
use borrow.Author.Rules.{rules}
use Rattle.answer_line.specs.Digits.{decimal}
use Rattle.answer_line.proofs.Laws.{length_decimal}
use Rattle.answer_line.proofs.put_decimal.Goals as goal

pub places-requires : goal.places-requires
places-requires c = tt

pub put_digits-requires : goal.put_digits-requires
put_digits-requires c = record { base_nonzero = search rules; k_in_bounds = omega (arith, length_decimal c.args.n, c.requires.room) }

pub shape_of-line : goal.shape_of-line
shape_of-line c = c.put_digits.auto.line

pub returns : goal.returns
unfolding decimal
returns c = rw c.places.ensures at c.put_digits.ensures
