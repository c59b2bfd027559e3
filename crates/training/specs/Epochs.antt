-- Epochs, the stop, the final averaging and the result, from document 01's section on training. Assumes nothing.
use Rattle.training.specs.declared.Trained.{Trained}
use Rattle.std.specs.Prelude.{Bool, true, false, cond, ◌||◌, List, [], ◌∷◌, ℕ, zero, suc, ◌+◌, get_or, replicate, Float, Result, Ok, Err}
use Rattle.refusals.specs.Refusals.{numbered}
use Rattle.refusals.specs.declared.Refusal.{Refusal}
use Rattle.training.specs.declared.Visit.{Visit}
use Rattle.training.specs.declared.Visit.TheVariants.{Unchanged, Updated, Refused}
use Rattle.training.specs.declared.Progress.{Progress}
use Rattle.shuffle.specs.Shuffle.{Deal, shuffled}
use Rattle.lines.specs.Passes.{through}
use Rattle.binary64.specs.Numbers.{nought, whole}
use Rattle.lines.specs.Tables.{Model}
use Rattle.lines.specs.Data.{Data}
use Rattle.fronts.specs.Finite.{all_finite_of}
use Rattle.training.specs.Rules.{Rule, beside_at_first, stops, averaged_by, ◌⊘◌}
use Rattle.training.specs.Visits.{TrainingState, visited}

pub record Settings : Type 0 where
  pub epochs : ℕ
  pub epsilon : Float
  pub seed : ℕ

-- what goes from epoch to epoch
pub record Run : Type 0 where
  pub state : TrainingState
  pub deal : Deal
  pub epochs : ℕ
  pub over : Bool

-- what a trainer gives: the answer, and the weights
pub record TrainingResult : Type 0 where
  pub answer : Result Trained Refusal
  pub weights : List Float

abbrev pub is_refused : Visit → Bool
is_refused Unchanged = false
is_refused Updated = false
is_refused (Refused why) = true

-- i, i + 1, ..: n of them
unfoldable pub counted_from : ℕ → ℕ → List ℕ
counted_from i zero = []
counted_from i (suc n) = i ∷ counted_from (suc i) n

-- "Order starts 0 to N−1"
abbrev pub up_to : ℕ → List ℕ
up_to n = counted_from 0 n

-- an epoch begins with a loss of +0
unfoldable pub opened : TrainingState → TrainingState
opened s = record {
  progress = record { visit = Unchanged; visits = s.progress.visits; updates = s.progress.updates; loss = nought };
  learned = s.learned;
}

-- an epoch's visits, whatever a visit is
module _ (visit : ℕ → TrainingState → TrainingState) (order : List ℕ) where
  -- the instance at a place of the order, unless a visit was refused
  unfoldable pub visited_at : ℕ → TrainingState → TrainingState
  visited_at place s = cond (is_refused s.progress.visit) s (visit (get_or order place 0) s)

  unfoldable pub epoch_over : ℕ → TrainingState → TrainingState
  epoch_over instances s = through visited_at 0 instances (opened s)

-- training ends after an epoch in which a visit was refused, or whose loss/N is low enough
abbrev pub ends_after : (Float → Bool) → ℕ → Progress → Bool
ends_after stop instances s = is_refused s.visit || stop (s.loss ⊘ whole instances)

-- epochs, whatever a visit is and whichever rate of loss ends training
module _ (visit : ℕ → TrainingState → TrainingState) (stop : Float → Bool) (instances : ℕ) where
  -- "shuffled before each epoch, keeping the order of the epoch before"; "The generator's state goes from epoch to epoch"
  unfoldable pub epoch : Run → Run
  epoch r =
      let deal = shuffled instances r.deal in
      let s = epoch_over visit deal.order instances r.state in
      record { state = s; deal = deal; epochs = r.epochs + 1; over = ends_after stop instances s.progress }

  unfoldable pub epoch_unless_over : ℕ → Run → Run
  epoch_unless_over e r = cond r.over r (epoch r)

module _ (rule : Rule) (set : Settings) (m : Model) (d : Data) where
  -- "Weights start at 0", "The state starts at the seed"
  unfoldable pub begun : Run
  begun = record {
    state = record {
      progress = record { visit = Unchanged; visits = 0; updates = 0; loss = nought };
      learned = record {
        weights = replicate m.features.count nought;
        beside = replicate m.features.count (beside_at_first rule);
      };
    };
    deal = record { state = set.seed; order = up_to d.instances };
    epochs = 0;
    over = false;
  }

  unfoldable pub ran : Run
  ran = through (epoch_unless_over (visited rule m d) (stops rule set.epsilon) d.instances) 0 set.epochs begun

  -- "After 8 and 9 the needed front of every result and work buffer is zero"
  unfoldable pub refused_with : Refusal → TrainingResult
  refused_with why = record { answer = Err why; weights = replicate m.features.count nought }

  -- the final averaging; 9 has "all visits for the averaging" as place
  unfoldable pub averaged : Run → TrainingResult
  averaged r =
      let progress = r.state.progress in
      let w = averaged_by rule m.features.count (whole (progress.visits + 1)) r.state.learned in
      cond (all_finite_of w m.features.count)
      (record { answer = Ok (record { epochs = r.epochs; visits = progress.visits; updates = progress.updates }); weights = w })
      (refused_with (numbered 9 progress.visits))

  unfoldable pub finished : Visit → Run → TrainingResult
  finished Unchanged r = averaged r
  finished Updated r = averaged r
  finished (Refused why) r = refused_with why

  -- what is trained on tables that are not refused under 1 to 7
  unfoldable pub trained : TrainingResult
  trained = let r = ran in finished r.state.progress.visit r
