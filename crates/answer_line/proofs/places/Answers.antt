-- `answer_line::places` meets its contract. The loop's invariant: the places counted and those of the rest make all of them, and the rest has no more than are left of twenty. Assumes nothing.
use Prim.Native.Nat.{◌+◌, ◌-◌}
use mathlib.Core.Path.{◌≡◌, refl}
use native.Mathlib.Omega.{arith}
use Rattle.answer_line.specs.Digits.{decimal_places}
use Rattle.answer_line.proofs.Laws.{divided, one_place}
use Rattle.answer_line.proofs.places.Goals as goal

pub loop-rest-init : goal.loop-rest-init
unfolding decimal_places
loop-rest-init c = (omega arith, omega arith, omega arith, refl)

pub loop-rest-preserved : goal.loop-rest-preserved
loop-rest-preserved c =
    let l = c.loop-rest in
    let d = divided (21 - l.k) l.rest c.loop-rest-test.true l.invariant.2 in
    let e : 21 - l.k - 1 ≡ 21 - (l.k + 1) = omega arith in
    (omega arith, omega (arith, d.left), rw e at d.below, (let q = rw e at d.counted in omega arith))

pub returns : goal.returns
returns c = omega (arith, one_place (21 - c.loop-rest.k) c.loop-rest.rest (omega arith) c.loop-rest-test.false)
