-- `compute_scores::transition_entry` meets its contract: source and destination are labels, so their place is in the table. Assumes nothing.
use Prim.Native.Nat.{ℕ, ◌+◌, ◌*◌, ◌≤◌, ◌<◌}
use native.Mathlib.Omega.{arith}
use native.Mathlib.Nat.{mul-le-mul_right, le_of_lt}
use borrow.Author.Tests.{eq-eqb, ne_eqb}
use lib.ListN.{length}
use Rattle.lines.specs.Passes.{raised}
use Rattle.lines.specs.Scored.{transition_entry_of}
use Rattle.lines.proofs.Fronts.{in_row}
use Rattle.compute_scores.proofs.transition_entry.Goals.{After-at-destination}
use Rattle.compute_scores.proofs.transition_entry.Goals as goal

-- two labels: their place is in the table, whichever comes first
record Labels (labels size a b : ℕ) : Type 0 where
  row : a * labels ≤ labels * labels
  other : b * labels ≤ labels * labels
  place : a * labels + b < size
  turned : b * labels + a < size

both : (labels size a b : ℕ) → a < labels → b < labels → labels * labels ≤ size → Labels labels size a b
both labels size a b h k r =
    record {
      row = mul-le-mul_right labels (le_of_lt h);
      other = mul-le-mul_right labels (le_of_lt k);
      place = omega (arith, in_row a labels b labels h k);
      turned = omega (arith, in_row b labels a labels k h);
    }

read : (c : After-at-destination) → Labels c.args.labels (length c.args.transitions.now) c.at-source.result c.at-destination.result
read c =
    let i = c.at-i.result in
    let h : i < c.args.features = omega (arith, c.at-i.ensures, c.requires.e_bound) in
    both _ _ _ _ (rw c.at-source.ensures (c.requires.sound_transitions.leaves i h c.if-kinds-i-eq1.true)) (rw c.at-destination.ensures (c.requires.sound_transitions.states.leads i h)) c.requires.labels_in_bounds

pub overflow_mul-p : goal.overflow_mul-p
overflow_mul-p c =
    omega (arith, read (goal.at.overflow_mul-p c).After-at-destination, c.requires.labels_in_bounds, c.well_formed)

pub overflow_add-p : goal.overflow_add-p
overflow_add-p c = omega (arith, read (goal.at.overflow_add-p c).After-at-destination)

pub offset_bounds-transitions-p : goal.offset_bounds-transitions-p
offset_bounds-transitions-p c = omega (arith, read (goal.at.offset_bounds-transitions-p c).After-at-destination)

pub bounds-transitions-p : goal.bounds-transitions-p
bounds-transitions-p c = omega (arith, read (goal.at.bounds-transitions-p c).After-at-destination)

pub bounds-transitions-p-then-kinds-i-eq1 : goal.bounds-transitions-p-then-kinds-i-eq1
bounds-transitions-p-then-kinds-i-eq1 c = omega (arith, read (goal.at.bounds-transitions-p-then-kinds-i-eq1 c).After-at-destination)

pub returns-then-kinds-i-eq1 : goal.returns-then-kinds-i-eq1
unfolding transition_entry_of raised
returns-then-kinds-i-eq1 c =
    rw (← c.at-i.ensures, eq-eqb _ _ c.if-kinds-i-eq1.true, ← c.at-source.ensures, ← c.at-destination.ensures)

pub returns-else-kinds-i-eq1 : goal.returns-else-kinds-i-eq1
unfolding transition_entry_of
returns-else-kinds-i-eq1 c = rw (← c.at-i.ensures, ne_eqb _ _ c.if-kinds-i-eq1.false)
