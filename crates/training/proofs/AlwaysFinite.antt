-- Before every visit all that 9 looks at is finite: it starts so, and a visit keeps it so. Assumes nothing.
use mathlib.Core.Path.{◌≡◌}
use mathlib.Core.Bool.{Bool}
use mathlib.Core.List.{List}
use Prim.Native.Nat.{ℕ}
use lib.Dec.{T}
use lib.ListN.{get_or, replicate, get_or-replicate}
use lib.Ieee.{Float, nan}
use lib.Ieee.Scale.{finite}
use Rattle.fronts.specs.Finite.{FiniteTo}
use Rattle.shuffle.specs.Shuffle.{shuffled}
use Rattle.lines.specs.Passes.{through}
use Rattle.binary64.specs.Numbers.{nought}
use Rattle.lines.specs.Tables.{Model}
use Rattle.lines.specs.Data.{Data}
use Rattle.training.specs.Rules.{Rule, beside_at_first, stops}
use Rattle.training.specs.Visits.{TrainingState, unchanged, held_to, visited}
use Rattle.training.specs.Epochs.{Settings, Run, is_refused, opened, visited_at, epoch_over, epoch, epoch_unless_over, begun}
use Rattle.training.specs.Orders.{ran_for}
use Rattle.training.specs.Reasons.{TablesFinite}
use Rattle.training.specs.Reached.{order_in, state_before, AlwaysFinite}
use Rattle.training.proofs.Weights.{through_keeps}
use Rattle.training.proofs.Reasons.{by_test, held_finite, visit_keeps_finite}

filled_finite : (n : ℕ) (v : Float) → T (finite v) → FiniteTo (replicate n v) n
filled_finite n v h i l = rw (get_or-replicate n i v nan l) h

module _ (features : ℕ) (visit : ℕ → TrainingState → TrainingState) (keeps : (i : ℕ) (s : TrainingState) → TablesFinite features s → TablesFinite features (visit i s)) where
  at_finite : (order : List ℕ) (j : ℕ) (s : TrainingState) → TablesFinite features s → TablesFinite features (visited_at visit order j s)
  unfolding visited_at
  at_finite order j s h =
      by_test (is_refused s.progress.visit) (λ e. rw e h) (λ e. rw e (keeps (get_or order j 0) s h))

  -- an epoch opens with a loss of +0
  opened_finite : (order : List ℕ) (n : ℕ) (s : TrainingState) → TablesFinite features s → TablesFinite features (through (visited_at visit order) 0 n (opened s))
  unfolding opened
  opened_finite order n s h = through_keeps (TablesFinite features) (visited_at visit order) (at_finite order) 0 n (opened s) (record { weights = h.weights; beside = h.beside; loss = tt })

  unless_finite : (stop : Float → Bool) (instances e : ℕ) (r : Run) → TablesFinite features r.state → TablesFinite features (epoch_unless_over visit stop instances e r).state
  unfolding epoch_unless_over epoch epoch_over
  unless_finite stop instances e r h =
      by_test r.over (λ o. rw o h) (λ o. rw o (opened_finite (shuffled instances r.deal).order instances r.state h))

  run_finite : (stop : Float → Bool) (instances e : ℕ) (r : Run) → TablesFinite features r.state → TablesFinite features (through (epoch_unless_over visit stop instances) 0 e r).state
  run_finite stop instances e r h = through_keeps (λ (x : Run). TablesFinite features x.state) (epoch_unless_over visit stop instances) (unless_finite stop instances) 0 e r h

module _ (rule : Rule) (set : Settings) (m : Model) (d : Data) (start : T (finite (beside_at_first rule))) where
  pub ran_finite : (e : ℕ) → TablesFinite m.features.count (ran_for rule set m d e).state
  unfolding begun
  ran_finite e =
      let n = m.features.count in
      run_finite n (visited rule m d) (visit_keeps_finite rule m d) (stops rule set.epsilon) d.instances e (begun rule set m d)
      (record { weights = filled_finite n nought tt; beside = filled_finite n (beside_at_first rule) start; loss = tt })

  pub before_finite : (e j : ℕ) → TablesFinite m.features.count (state_before rule set m d e j)
  unfolding state_before
  before_finite e j = opened_finite m.features.count (visited rule m d) (visit_keeps_finite rule m d) (order_in rule set m d e) j (ran_for rule set m d e).state (ran_finite e)

-- a visit that ends as unchanged leaves what 9 would look at
held_unchanged : (features : ℕ) (s : TrainingState) → TablesFinite features s → held_to features s (unchanged s) ≡ unchanged s
unfolding held_to unchanged
held_unchanged features s h = rw (held_finite features (unchanged s) (record { weights = h.weights; beside = h.beside; loss = h.loss }))

pub always_finite : AlwaysFinite
always_finite rule set m d start = record {
  before = before_finite rule set m d start;
  unchanged_held = λ e j. held_unchanged m.features.count (state_before rule set m d e j) (before_finite rule set m d start e j);
}
