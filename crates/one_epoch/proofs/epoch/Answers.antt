-- `one_epoch::epoch` meets its contract: after j visits the state is the definition's, and a refused visit ends both. Assumes nothing.
use mathlib.Core.Path.{refl, sym, ◌∙◌}
use Prim.Native.Nat.{◌<◌}
use native.Mathlib.Omega.{arith}
use lib.Ieee.{of_bits}
use Rattle.lines.proofs.Laws.{through_none}
use Rattle.training.specs.Visits.{TrainingState}
use Rattle.training.specs.Epochs.{opened}
use Rattle.training.proofs.Epochs.{epoch_end}
use Rattle.updates.specs.Updating.{state_of}
use Rattle.updates.proofs.Laws.{exactly}
use Rattle.one_epoch.proofs.Laws.{visited_next, visited_cut}
use Rattle.one_epoch.proofs.epoch.Goals.{After-at-i, Start}
use Rattle.one_epoch.proofs.epoch.Goals as goal

-- the state that the arguments make
abbrev given : Start → TrainingState
given c = state_of c.args.s c.args.weights.now c.args.beside.now

-- the turn has c visit to make
under : (c : After-at-i) → c.loop-j.j < c.args.sizes.instances
under c = c.loop-j-test.true

pub loop-j-init : goal.loop-j-init
loop-j-init c =
    (omega arith, c.requires.updates, refl, through_none _ _ _)

pub at-i-requires : goal.at-i-requires
at-i-requires c =
    omega (arith, c.loop-j-test.true, c.requires.long)

pub visit-progress-requires : goal.visit-progress-requires
visit-progress-requires c =
    let i = c.loop-j.invariant in
    let h = c.requires.among c.loop-j.j (under (goal.at.visit-progress-requires c).After-at-i) in
    record {
      model = c.requires.model;
      corpus = c.requires.corpus;
      exact = record { weights_long = omega (arith, c.requires.exact); beside_long = omega (arith, c.requires.exact); truly_long = omega (arith, c.requires.exact); predicted_long = omega (arith, c.requires.exact) };
      among = omega (arith, h, c.at-i.ensures);
      visits = omega (arith, i.0, under (goal.at.visit-progress-requires c).After-at-i, c.requires.room);
      updates = i.1;
    }

pub returns-then-is_refused : goal.returns-then-is_refused
unfolding opened of_bits
returns-then-is_refused c =
    let i = c.loop-j.invariant in
    let made = c.visit-progress.ensures in record { fact = visited_cut _ _ c.loop-j.j _ _ (given (goal.at.returns-then-is_refused c).Start) (under (goal.at.returns-then-is_refused c).After-at-i) c.at-i.ensures i.2 i.3 made.fact (sym c.is_refused.ensures ∙ c.if-is_refused.true); counted_in = record { visits = omega (arith, i.0, made.visit_counted.visits, under (goal.at.returns-then-is_refused c).After-at-i); updates = made.visit_counted.updates } }

pub loop-j-preserved : goal.loop-j-preserved
loop-j-preserved c =
    let i = c.loop-j.invariant in
    let made = c.visit-progress.ensures in
    let f = sym c.is_refused.ensures ∙ c.if-is_refused.false in (
      omega (arith, i.0, made.visit_counted.visits),
      made.visit_counted.updates,
      f,
      visited_next _ _ c.loop-j.j _ _ c.at-i.ensures i.2 i.3 made.fact f,
    )

pub returns : goal.returns
unfolding opened of_bits
returns c =
    let i = c.loop-j.invariant in record { fact = exactly (epoch_end _ _ c.loop-j.j _ (given (goal.at.returns c).Start) c.loop-j.auto.j-end c.loop-j-test.false i.3); counted_in = record { visits = omega (arith, i.0); updates = i.1 } }
