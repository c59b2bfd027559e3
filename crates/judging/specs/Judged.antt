-- What a prediction says of an instance: 8 for its scores, the wrong labels, and where there are any the two path scores. Assumes nothing.
use Rattle.refusals.specs.declared.Refusal.{Refusal}
use Rattle.viterbi_end.specs.declared.Found.{Found}
use Rattle.std.specs.Prelude.{◌≡◌, Bool, true, false, ◌&&◌, List, ℕ, ◌*◌, ◌≤◌, ◌<◌, length, get_or, Float, Ok, Err, Result}
use Rattle.best_path.specs.Scores.{tabled}
use Rattle.best_path.specs.Decoded.{decoded_path}
use Rattle.best_path.specs.PathScore.{path_score}
use Rattle.score_tables.specs.Sound.{LabelsIn, WordsIn}
use Rattle.training.specs.Wrong.{wrong_of}
use Rattle.fronts.specs.Finite.{all_finite_of}
use Rattle.labelling.specs.Labelled.{Labelled}
use Rattle.judging.specs.declared.Prediction.{Prediction}

-- the finished state and transition scores are finite
abbrev pub finite_scores : (labels words : ℕ) (transitions states : List Float) → Bool
finite_scores labels words transitions states = all_finite_of states (words * labels) && all_finite_of transitions (labels * labels)

-- over the scores of a line of so many words; the path is known where they are finite
pub record Judged (labels words : ℕ) (transitions states : List Float) (references after : List ℕ) (p : Prediction) : Type 0 where
  pub finite : p.finite ≡ finite_scores labels words transitions states
  pub path : p.finite ≡ true → after ≡ decoded_path (tabled labels transitions states) words
  pub wrong : p.finite ≡ true → p.wrong ≡ wrong_of (decoded_path (tabled labels transitions states) words) references words
  pub few : p.wrong ≤ 128
  pub reached : p.finite ≡ true → (p.wrong ≡ 0 → ⊥) → p.reached ≡ path_score (tabled labels transitions states) (decoded_path (tabled labels transitions states) words) words
  pub wanted : p.finite ≡ true → (p.wrong ≡ 0 → ⊥) → p.wanted ≡ path_score (tabled labels transitions states) references words

-- no 8 was given
abbrev pub is_decoded_of : Result Found Refusal → Bool
is_decoded_of (Ok found) = true
is_decoded_of (Err why) = false

-- what judging relies on: an instance that was labelled by these scores, in a path no longer than its words
pub record Judgeable (labels words : ℕ) (references : List ℕ) (transitions states : List Float) (path : List ℕ) (answer : Result Found Refusal) : Type 0 where
  pub labels_in : LabelsIn labels
  pub words_in_lem : WordsIn words
  pub referenced : length references ≡ words
  pub below : (w : ℕ) → w < words → get_or references w 0 < labels
  pub long_transitions : length transitions ≡ labels * labels
  pub long_states : length states ≡ words * labels
  pub before : List ℕ
  pub long_before : length before ≡ words
  pub labelled : Labelled labels words transitions states before answer path
