-- What the code of a visit is held to: when a progress and the two tables are as a definition has them. Assumes nothing.
use Rattle.std.specs.Prelude.{◌≡◌, false, cond, ◌&&◌, List, ℕ, ◌+◌, ◌≤◌, length, Float}
use Rattle.training.specs.declared.Progress.{Progress}
use Rattle.judging.specs.declared.Prediction.{Prediction}
use Rattle.fronts.specs.Finite.{all_finite_of}
use Rattle.training.specs.Rules.{Rule, Learned, Mistake, updated_by}
use Rattle.training.specs.Visits.{TrainingState, refused_as, changed_to, held_to}
use Rattle.training.specs.Epochs.{is_refused}

-- what two tables make, and with a progress
abbrev pub learned_as : List Float → List Float → Learned
learned_as weights beside = record { weights = weights; beside = beside }

abbrev pub state_of : Progress → List Float → List Float → TrainingState
state_of progress weights beside = record { progress = progress; learned = learned_as weights beside }

-- what an update is told of an instance whose labels differ: its words, the prediction, true and predicted counts, instance weight and averaging counter
abbrev pub mistake_with : ℕ → Prediction → (truly predicted : List Float) → (weight counter : Float) → Mistake
mistake_with words p truly predicted weight counter = record {
  words = words;
  wrong = p.wrong;
  truly = truly;
  predicted = predicted;
  true_score = p.wanted;
  predicted_score = p.reached;
  weight = weight;
  counter = counter;
}

-- the progress is the definition's, and so are the tables unless the visit was refused: then nobody reads them, since they are to be zero
pub record Agreed (made meant : TrainingState) : Type 0 where
  pub progress : made.progress ≡ meant.progress
  pub whole : is_refused meant.progress.visit ≡ false → made ≡ meant

-- the counters rise by one visit at most
pub record VisitCounted (before after : Progress) : Type 0 where
  pub visits : after.visits ≤ before.visits + 1
  pub updates : after.updates ≤ after.visits

-- where labels differ: 8 for the counts, then the update and 9
unfoldable pub settled : Rule → ℕ → Mistake → TrainingState → TrainingState
settled rule features k s =
    cond (all_finite_of k.truly features && all_finite_of k.predicted features)
    (held_to features s (changed_to (updated_by rule features k s.learned) s))
    (refused_as 8 s)

-- the tables that training changes are exactly as long as there are features
pub record Exact (features : ℕ) (weights beside truly predicted : List Float) : Type 0 where
  pub weights_long : length weights ≡ features
  pub beside_long : length beside ≡ features
  pub truly_long : length truly ≡ features
  pub predicted_long : length predicted ≡ features
