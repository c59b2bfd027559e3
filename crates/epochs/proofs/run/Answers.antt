-- `epochs::run` meets its contract: after e epochs the run is the definition's, and what ends one ends the other. Assumes nothing.
use Prim.Native.Nat.{◌≤◌, ◌<◌}
use native.Mathlib.Omega.{arith}
use lib.Ieee.{of_bits}
use Rattle.lines.proofs.Laws.{through_none}
use Rattle.training.specs.Counter.{most_visits}
use Rattle.training.proofs.Orders.{places_below}
use Rattle.updates.specs.Updating.{state_of}
use Rattle.epochs.proofs.Laws.{dealt_keeps, all_run, run_on, run_ended}
use Rattle.epochs.proofs.run.Goals.{After-deal-g, After-epoch-progress}
use Rattle.epochs.proofs.run.Goals as goal

-- the turn has an epoch to run
under : (c : After-deal-g) → c.loop-e.e < c.args.allowed
under c = c.loop-e-test.true

bound : (c : After-epoch-progress) → c.epoch-progress.result.visits ≤ most_visits
bound c =
    omega (arith, c.loop-e.invariant.0, c.epoch-progress.ensures.counted_in.visits, c.loop-e-test.true, c.requires.few, c.requires.corpus.few)

pub loop-e-init : goal.loop-e-init
loop-e-init c =
    (omega arith, omega arith, c.requires.ordered, through_none _ _ _)

pub deal-g-requires : goal.deal-g-requires
deal-g-requires c =
    let d = c.requires.corpus in
    (d.some, d.few, c.loop-e.invariant.2.long)

pub epoch-progress-requires : goal.epoch-progress-requires
epoch-progress-requires c =
    let i = c.loop-e.invariant in
    let o = dealt_keeps _ _ _ c.deal-g.ensures i.2 in
    record {
      model = c.requires.model;
      corpus = c.requires.corpus;
      exact = record { weights_long = omega (arith, c.requires.exact); beside_long = omega (arith, c.requires.exact); truly_long = omega (arith, c.requires.exact); predicted_long = omega (arith, c.requires.exact) };
      long = o.long;
      among = places_below _ _ o;
      room = omega (arith, i.0, under (goal.at.epoch-progress-requires c).After-deal-g, c.requires.few, c.requires.corpus.few);
      updates = i.1;
    }

pub ends-requires : goal.ends-requires
ends-requires c =
    c.requires.corpus.few

pub returns-then-ends : goal.returns-then-ends
unfolding of_bits
returns-then-ends c =
    run_ended _ _ _ _ c.loop-e.e c.loop-e.invariant.3 c.deal-g.ensures c.epoch-progress.ensures.fact c.ends.ensures _ (under (goal.at.returns-then-ends c).After-deal-g) c.if-ends.true (bound (goal.at.returns-then-ends c).After-epoch-progress)

pub loop-e-preserved : goal.loop-e-preserved
loop-e-preserved c =
    let i = c.loop-e.invariant in
    let made = c.epoch-progress.ensures in (
      omega (arith, i.0, made.counted_in.visits, c.requires.corpus.few),
      made.counted_in.updates,
      dealt_keeps _ _ _ c.deal-g.ensures i.2,
      run_on _ _ _ _ c.loop-e.e i.3 c.deal-g.ensures made.fact c.ends.ensures c.if-ends.false,
    )

pub returns : goal.returns
unfolding of_bits
returns c =
    let i = c.loop-e.invariant in
    all_run _ _ _ _ c.loop-e.e _ (state_of c.loop-e.progress c.loop-e.weights c.loop-e.beside) (record { state = c.loop-e.g; order = c.loop-e.order }) c.loop-e.auto.e-end c.loop-e-test.false (omega (arith, i.0, c.requires.few)) i.3
