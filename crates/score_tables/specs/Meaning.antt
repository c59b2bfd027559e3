-- What the rows of the score tables mean in plain terms: each number exactly when document 01 gives it. The proofs are in proofs/Meant.
use Rattle.std.specs.Prelude.{◌≡◌, List, ◌↔◌, ℕ, ◌*◌, Float, Ok, Err}
use Rattle.refusals.specs.declared.Refusal.{Refusal}
use Rattle.refusals.specs.Refusals.{Checked, refused_at}
use Rattle.refusals.specs.Meaning.{FirstBad}
use Rattle.fronts.specs.Finite.{FiniteTo, NotFinite}
use Rattle.score_tables.specs.Rows.{one, four, scores_short}
use Rattle.score_tables.specs.Sound.{LabelsIn, WordsIn, ScoresRoom}

-- a row with place 0: "given exactly when" something is not fine, and under no other number
pub record Row (check : Checked) (number : ℕ) (Fine : Type 0) : Type 0 where
  pub accepted : (check ≡ Ok tt) ↔ Fine
  pub refused : (check ≡ refused_at number 0) ↔ (Fine → ⊥)
  pub only : (why : Refusal) → check ≡ Err why → Err why ≡ refused_at number 0

abbrev pub OneMeans : Type 0
OneMeans = (labels : ℕ) → Row (one labels) 1 (LabelsIn labels)

abbrev pub FourMeans : Type 0
FourMeans = (words : ℕ) → Row (four words) 4 (WordsIn words)

abbrev pub TwoMeans : Type 0
TwoMeans = (labels words : ℕ) (transitions states : List Float) → Row (scores_short labels words transitions states) 2 (ScoresRoom labels words transitions states)

-- the place of 6: the first bad entry of the first table that has one, "transitions; states"
pub data SixAt (labels words : ℕ) (transitions states : List Float) (place : ℕ) : Type 0 where
  in_transitions :
      FirstBad (NotFinite transitions) (labels * labels) place →
      SixAt labels words transitions states place
  in_states :
      FiniteTo transitions (labels * labels) →
      FirstBad (NotFinite states) (words * labels) place →
      SixAt labels words transitions states place
