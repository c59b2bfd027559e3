-- `passive_aggressive::norm` meets its contract. The loop's invariant: once the notes are added up, the features before this one are in the sum. Assumes nothing.
use mathlib.Core.Path.{◌≡◌, refl}
use Prim.Native.Nat.{◌+◌, ◌*◌, ◌/◌}
use native.Mathlib.Omega.{arith}
use lib.Ieee.{of_bits}
use Rattle.passive_aggressive.proofs.Notes.{going_none, going_next, going_settled, going_end}
use Rattle.passive_aggressive.proofs.norm.Goals.{then-noted-eq-NOTES, else-noted-eq-NOTES}
use Rattle.passive_aggressive.proofs.norm.Goals as goal

pub loop-four-init : goal.loop-four-init
unfolding of_bits
loop-four-init c = (going_none _ refl, omega arith)

pub loop-four-preserved : goal.loop-four-preserved
loop-four-preserved c =
    let l = c.loop-four.invariant in
    let g = going_next l.0 l.1 (omega (arith, c.loop-four-test.true)) c.note-noted.ensures.who_after c.note-noted.ensures.value in
    let more : 4 * (c.loop-four.four + 1) ≡ 4 * c.loop-four.four + 4 = omega arith in
    elim c.if-noted-eq-NOTES.branch [
      | then-noted-eq-NOTES w ↦ rw (w.noted-is, w.sum-is, more) (going_settled g w.settle-sum.ensures, omega arith)
      | else-noted-eq-NOTES w ↦ rw (w.noted-is, w.sum-is, more) (g, omega (arith, w.if-noted-eq-NOTES.false, g.notes.there, g.long))
    ]

pub returns : goal.returns
returns c =
    let all : c.loop-four.four ≡ c.args.features / 4 = omega arith in
    going_end (rw all at c.loop-four.invariant.0) c.settle-so_far.ensures c.add_up.ensures
