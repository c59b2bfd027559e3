-- What is claimed of one visit, by how it ends. The proofs are in proofs/OneVisit.
use Rattle.std.specs.Prelude.{◌≡◌, true, List, ℕ, ◌<◌, get_or}
use Rattle.training.specs.declared.Visit.TheVariants.{Unchanged, Updated}
use Rattle.best_path.specs.Scores.{tabled}
use Rattle.best_path.specs.Decoded.{decoded_path}
use Rattle.lines.specs.Tables.{Model}
use Rattle.lines.specs.Scored.{states_of, transitions_of}
use Rattle.lines.specs.Data.{Data, first_word, words_of, reference_of}
use Rattle.training.specs.Rules.{Rule}
use Rattle.training.specs.Visits.{TrainingState, visited}
use Rattle.training.specs.Epochs.{is_refused}

module _ (m : Model) (d : Data) (i : ℕ) (s : TrainingState) where
  -- the labels that the present weights predict for instance i
  unfoldable pub predicted_for : List ℕ
  predicted_for =
      decoded_path
      (tabled m.labels (transitions_of m s.learned.weights) (states_of m s.learned.weights d.words (first_word d i) (words_of d i)))
      (words_of d i)

  -- the labels agree: predicted and reference label are the same at every word
  abbrev pub LabelsAgree : Type 0
  LabelsAgree = (word : ℕ) → word < words_of d i → get_or predicted_for word 0 ≡ get_or (reference_of d i) word 0

-- "Updated: labels differ": an unchanged visit's labels agree, an updated visit's do not
pub record EndsByLabels (rule : Rule) (m : Model) (d : Data) (i : ℕ) (s : TrainingState) : Type 0 where
  pub agree : (visited rule m d i s).progress.visit ≡ Unchanged → LabelsAgree m d i s
  pub differ : (visited rule m d i s).progress.visit ≡ Updated → LabelsAgree m d i s → ⊥

abbrev pub VisitsEndByLabels : Type 0
VisitsEndByLabels = (rule : Rule) (m : Model) (d : Data) (i : ℕ) (s : TrainingState) → EndsByLabels rule m d i s

-- from one state to another nothing was learned: no table changed, no update was counted, no loss added
pub record NothingLearned (before after : TrainingState) : Type 0 where
  pub tables : after.learned ≡ before.learned
  pub updates : after.progress.updates ≡ before.progress.updates
  pub loss : after.progress.loss ≡ before.progress.loss

-- a visit whose labels agree changes nothing, refused for its scores or not
abbrev pub AgreeingChangesNothing : Type 0
AgreeingChangesNothing = (rule : Rule) (m : Model) (d : Data) (i : ℕ) (s : TrainingState) → LabelsAgree m d i s → NothingLearned s (visited rule m d i s)

-- and neither does a visit that is refused
abbrev pub RefusedChangesNothing : Type 0
RefusedChangesNothing = (rule : Rule) (m : Model) (d : Data) (i : ℕ) (s : TrainingState) → is_refused (visited rule m d i s).progress.visit ≡ true → NothingLearned s (visited rule m d i s)
