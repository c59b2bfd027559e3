-- `compute_scores::state_entry` meets its contract: the destination is a label, so its place is in the word's row. Assumes nothing.
use Prim.Native.Nat.{◌+◌, ◌*◌, ◌<◌}
use native.Mathlib.Omega.{arith}
use borrow.Author.Tests.{eq-eqb, ne_eqb}
use lib.ListN.{length}
use Rattle.lines.specs.Passes.{raised}
use Rattle.lines.specs.Scored.{state_entry_of}
use Rattle.compute_scores.proofs.state_entry.Goals.{After-at}
use Rattle.compute_scores.proofs.state_entry.Goals as goal

inside : (c : After-at) → c.args.word * c.args.labels + c.at.result < length c.args.states.now
inside c =
    omega (arith, c.at.ensures, c.requires.sound_states.leads c.at-i.result (omega (arith, c.at-i.ensures, c.requires.e_bound)), c.requires.labels_in_bounds)

pub overflow_add-p : goal.overflow_add-p
overflow_add-p c = omega (arith, inside (goal.at.overflow_add-p c).After-at)

pub offset_bounds-states-p : goal.offset_bounds-states-p
offset_bounds-states-p c = omega (arith, inside (goal.at.offset_bounds-states-p c).After-at)

pub bounds-states-p : goal.bounds-states-p
bounds-states-p c = inside (goal.at.bounds-states-p c).After-at

pub bounds-states-p-then-kinds-i-eq0 : goal.bounds-states-p-then-kinds-i-eq0
bounds-states-p-then-kinds-i-eq0 c = inside (goal.at.bounds-states-p-then-kinds-i-eq0 c).After-at

pub returns-then-kinds-i-eq0 : goal.returns-then-kinds-i-eq0
unfolding state_entry_of raised
returns-then-kinds-i-eq0 c =
    rw (← c.at-i.ensures, eq-eqb _ _ c.if-kinds-i-eq0.true, ← c.at.ensures)

pub returns-else-kinds-i-eq0 : goal.returns-else-kinds-i-eq0
unfolding state_entry_of
returns-else-kinds-i-eq0 c = rw (← c.at-i.ensures, ne_eqb _ _ c.if-kinds-i-eq0.false)
