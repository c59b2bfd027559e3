-- Which visit of a training is refused with 8 or 9, and for what, in plain terms, both ways. Epochs and their visits are counted from 0. The proofs are in proofs/AlwaysFinite, proofs/Reached and proofs/RefusedExactly.
use Rattle.std.specs.Prelude.{◌≡◌, false, List, ◌↔◌, ℕ, ◌+◌, ◌*◌, ◌<◌, T, get_or, Float, Ok, Err}
use Rattle.std.specs.Float.Ieee.Scale.{finite}
use Rattle.refusals.specs.Refusals.{numbered}
use Rattle.training.specs.declared.Visit.{Visit}
use Rattle.training.specs.declared.Trained.{Trained}
use Rattle.shuffle.specs.Shuffle.{shuffled}
use Rattle.lines.specs.Passes.{through}
use Rattle.lines.specs.Tables.{Model}
use Rattle.lines.specs.Data.{Data}
use Rattle.binary64.specs.Numbers.{whole}
use Rattle.training.specs.Rules.{Rule, beside_at_first, stops, averaged_by, ◌⊘◌}
use Rattle.training.specs.Visits.{TrainingState, unchanged, held_to, visited}
use Rattle.training.specs.Epochs.{Settings, is_refused, opened, visited_at, begun, ran, trained}
use Rattle.training.specs.Orders.{ran_for}
use Rattle.training.specs.Reasons.{SomeNotFinite, EightInVisit, ComesToUpdate, KeepsSums, NineAfter, TablesFinite, after_update}

module _ (rule : Rule) (set : Settings) (m : Model) (d : Data) where
  -- the order of an epoch's visits: "shuffled before each epoch, keeping the order of the epoch before"
  abbrev pub order_in : ℕ → List ℕ
  order_in epoch = (shuffled d.instances (ran_for rule set m d epoch).deal).order

  -- the instance that is visited at a turn of an epoch, the state before the visit, and how the visit ends
  abbrev pub instance_at : ℕ → ℕ → ℕ
  instance_at epoch turn = get_or (order_in epoch) turn 0

  unfoldable pub state_before : ℕ → ℕ → TrainingState
  state_before epoch turn = through (visited_at (visited rule m d) (order_in epoch)) 0 turn (opened (ran_for rule set m d epoch).state)

  abbrev pub end_at : ℕ → ℕ → Visit
  end_at epoch turn = (visited rule m d (instance_at epoch turn) (state_before epoch turn)).progress.visit

  -- an epoch after which training goes on: none of its visits is refused, and its loss/N is not low enough to stop
  pub record GoesOn (epoch : ℕ) : Type 0 where
    pub none_refused : (turn : ℕ) → turn < d.instances → is_refused (end_at epoch turn) ≡ false
    pub not_low : stops rule set.epsilon ((state_before epoch d.instances).progress.loss ⊘ whole d.instances) ≡ false

  -- the visit at a turn of an epoch is made, and so many visits before it
  pub record Reached (epoch turn before : ℕ) : Type 0 where
    pub allowed : epoch < set.epochs
    pub going : (earlier : ℕ) → earlier < epoch → GoesOn earlier
    pub inside : turn < d.instances
    pub none_refused : (earlier : ℕ) → earlier < turn → is_refused (end_at epoch earlier) ≡ false
    -- the N visits of each epoch before, and those of this one
    pub number : before ≡ epoch * d.instances + turn

  -- the states before the visits, one after another: from the start, by what each visit made, and from epoch to epoch with a loss of +0
  pub record StatesFollow : Type 0 where
    pub first : state_before 0 0 ≡ (begun rule set m d).state
    pub next : (epoch turn before : ℕ) → Reached epoch turn before → state_before epoch (turn + 1) ≡ visited rule m d (instance_at epoch turn) (state_before epoch turn)
    pub opens : (epoch before : ℕ) → Reached (epoch + 1) 0 before → state_before (epoch + 1) 0 ≡ opened (state_before epoch d.instances)
    -- and each has counted the visits before it
    pub counted : (epoch turn before : ℕ) → Reached epoch turn before → (state_before epoch turn).progress.visits ≡ before

  -- 8 | "a finished state or transition score or feature count is not finite" | "in training: visits done"
  pub record EightAtVisit (place : ℕ) : Type 0 where
    pub epoch : ℕ
    pub turn : ℕ
    pub reached : Reached epoch turn place
    pub found : EightInVisit m d (instance_at epoch turn) (state_before epoch turn)

  -- the weights that the final averaging makes
  abbrev pub averaged_weights : List Float
  averaged_weights = let s = (ran rule set m d).state in averaged_by rule m.features.count (whole (s.progress.visits + 1)) s.learned

  -- every visit that is made ends as unchanged or updated
  abbrev pub NoneRefused : Type 0
  NoneRefused = (epoch turn before : ℕ) → Reached epoch turn before → is_refused (end_at epoch turn) ≡ false

  -- 9 | "after a visit or the final averaging, a weight, running sum, covariance or epoch loss is not finite" | "visits done before it; all visits for the averaging"
  pub data NineAt (place : ℕ) : Type 0 where
    in_visit :
        (epoch turn : ℕ) → Reached epoch turn place →
        ComesToUpdate m d (instance_at epoch turn) (state_before epoch turn) →
        NineAfter rule m.features.count (after_update rule m d (instance_at epoch turn) (state_before epoch turn)) →
        NineAt place
    in_averaging :
        NoneRefused → place ≡ (ran rule set m d).epochs * d.instances →
        KeepsSums rule → SomeNotFinite averaged_weights m.features.count →
        NineAt place

  -- 8 and 9 "given exactly when", and a training accepted exactly when neither is
  pub record TrainingEnds : Type 0 where
    pub eight : (place : ℕ) → (trained rule set m d).answer ≡ Err (numbered 8 place) ↔ EightAtVisit place
    pub nine : (place : ℕ) → (trained rule set m d).answer ≡ Err (numbered 9 place) ↔ NineAt place
    pub accepted : ((t : Trained) × ((trained rule set m d).answer ≡ Ok t)) ↔ ((place : ℕ) → EightAtVisit place → ⊥) × ((place : ℕ) → NineAt place → ⊥)

  -- before every visit, whatever became of those before it, 9 would find nothing, and so after a visit that ends as unchanged: "after a visit" 9 need only be looked for where there was an update
  pub record FiniteThroughout : Type 0 where
    pub before : (epoch turn : ℕ) → TablesFinite m.features.count (state_before epoch turn)
    pub unchanged_held : (epoch turn : ℕ) → held_to m.features.count (state_before epoch turn) (unchanged (state_before epoch turn)) ≡ unchanged (state_before epoch turn)

-- where the covariance starts at a finite variance, as 7 sees to
abbrev pub AlwaysFinite : Type 0
AlwaysFinite = (rule : Rule) (set : Settings) (m : Model) (d : Data) → T (finite (beside_at_first rule)) → FiniteThroughout rule set m d

abbrev pub RefusedExactly : Type 0
RefusedExactly = (rule : Rule) (set : Settings) (m : Model) (d : Data) → T (finite (beside_at_first rule)) → TrainingEnds rule set m d

abbrev pub VisitsFollow : Type 0
VisitsFollow = (rule : Rule) (set : Settings) (m : Model) (d : Data) → StatesFollow rule set m d
