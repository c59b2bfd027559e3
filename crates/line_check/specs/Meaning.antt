-- What a call on a single line refuses, in plain terms: each number exactly when document 01 gives it, and with which place. The proofs are in proofs/Meant.
use Rattle.std.specs.Prelude.{◌≡◌, List, [], ◌∷◌, ◌++◌, ◌↔◌, ℕ, Ok, Err}
use Rattle.refusals.specs.declared.Refusal.{Refusal}
use Rattle.refusals.specs.Refusals.{Checked, refused_at}
use Rattle.score_tables.specs.Sound.{LabelsIn, WordsIn}
use Rattle.refusal_rows.specs.Limits.{Limit, Fitting}
use Rattle.refusal_rows.specs.Tests.{Test, AllGood, FirstBadOf}
use Rattle.refusal_rows.specs.Given.{AtZero, OneOf}
use Rattle.feature_gen.specs.Rows.{id_tests, weight_tests}
use Rattle.line_check.specs.Rows.{Scoring, Counting, scoring_counts, scoring_rooms, counting_counts, counting_rooms, line_starts, label_tests, value_tests, scoring_checked, counting_checked}
use Rattle.line_check.specs.Sound.{SoundScoring, SoundCounting}

-- a check whose rows are 1, 4, 2 over these counts and then over these rooms, and 3, 5 and 6 over these tests: before each number stands what was tested and found fine
pub record Meaning (check : Checked) (labels words : ℕ) (counts rooms : List Limit) (starts ids numbers : List Test) : Type 0 where
  pub one : (place : ℕ) → check ≡ refused_at 1 place ↔ AtZero (LabelsIn labels) place
  pub four : (place : ℕ) → check ≡ refused_at 4 place ↔ LabelsIn labels × AtZero (WordsIn words) place
  pub two : (place : ℕ) → check ≡ refused_at 2 place ↔ (LabelsIn labels × WordsIn words) × AtZero (Fitting counts rooms) place
  pub three : (place : ℕ) → check ≡ refused_at 3 place ↔ (LabelsIn labels × (WordsIn words × Fitting counts rooms)) × FirstBadOf starts place
  pub five : (place : ℕ) → check ≡ refused_at 5 place ↔ (LabelsIn labels × (WordsIn words × (Fitting counts rooms × AllGood starts))) × FirstBadOf ids place
  pub six : (place : ℕ) → check ≡ refused_at 6 place ↔ (LabelsIn labels × (WordsIn words × (Fitting counts rooms × (AllGood starts × AllGood ids)))) × FirstBadOf numbers place
  pub only : (why : Refusal) → check ≡ Err why → OneOf (1 ∷ 4 ∷ 2 ∷ 3 ∷ 5 ∷ 6 ∷ []) why.number
  pub accepted : check ≡ Ok tt ↔ LabelsIn labels × (WordsIn words × (Fitting counts rooms × (AllGood starts × (AllGood ids × AllGood numbers))))

abbrev pub ScoringCheckMeans : Type 0
ScoringCheckMeans = (s : Scoring) →
    Meaning (scoring_checked s) s.model.labels s.words (scoring_counts s) (scoring_rooms s)
    (line_starts s.model s.words s.line.starts s.line.size)
    (id_tests s.model)
    (weight_tests s.model s.weights ++ value_tests s.line)

abbrev pub CountingCheckMeans : Type 0
CountingCheckMeans = (c : Counting) →
    Meaning (counting_checked c) c.model.labels c.words (counting_counts c) (counting_rooms c)
    (line_starts c.model c.words c.line.starts c.line.size)
    (id_tests c.model ++ label_tests c)
    (value_tests c.line)

-- what is accepted may be relied on
abbrev pub ScoringSound : Type 0
ScoringSound = (s : Scoring) → scoring_checked s ≡ Ok tt → SoundScoring s

abbrev pub CountingSound : Type 0
CountingSound = (c : Counting) → counting_checked c ≡ Ok tt → SoundCounting c
