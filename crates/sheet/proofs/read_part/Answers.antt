-- `sheet::read_part` meets its contract. The loop's invariant: the table is filled as far as i. Assumes nothing.
use Prim.Native.Nat.{◌<◌}
use mathlib.Core.Path.{◌≡◌, refl}
use native.Mathlib.Omega.{arith}
use lib.ListN.{drop, length-set}
use Rattle.refusals.proofs.Meant.{numbers_finite}
use Rattle.sheet.specs.Fields.{numbers_in}
use Rattle.sheet.proofs.Pattern.{pattern_number}
use Rattle.sheet.proofs.Bytes.{number_at, length_numbers}
use Rattle.sheet.proofs.Laws.{filled_none, filled_more}
use Rattle.sheet.proofs.read_part.Goals as goal

pub loop-i-init : goal.loop-i-init
loop-i-init c = (refl, filled_none _ _)

pub float_from_bits-table : goal.float_from_bits-table
float_from_bits-table c =
    let h : c.loop-i.i < c.args.n = omega arith in
    let nums = numbers_in c.args.n (drop c.args.at c.args.bytes.now) in
    pattern_number _ (rw (number_at c.args.bytes.now c.args.at c.args.n c.loop-i.i h, ← c.word_at.ensures) at (numbers_finite nums c.args.n c.requires.n_value c.loop-i.i h))

pub loop-i-preserved : goal.loop-i-preserved
loop-i-preserved c =
    let h : c.loop-i.i < c.args.n = omega arith in
    let nums = numbers_in c.args.n (drop c.args.at c.args.bytes.now) in (
      simp length-set c.loop-i.invariant.0,
      rw (c.word_at.ensures, ← number_at c.args.bytes.now c.args.at c.args.n c.loop-i.i h, c.loop-i.invariant.1)
          (filled_more nums c.args.table.now c.loop-i.i (omega (arith, length_numbers c.args.n (drop c.args.at c.args.bytes.now))) (omega arith)),
    )

pub returns : goal.returns
returns c =
    let e : c.loop-i.i ≡ c.args.n = omega arith in
    rw e at c.loop-i.invariant.1
