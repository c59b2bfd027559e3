-- What a call on a single line answers, in plain terms: 1, 4, 2, 3, 5 and 6 beforehand and 8 afterwards, each exactly when document 01 gives it, and with which place. The proof for every such call is in proofs/Answers.
use Rattle.std.specs.Prelude.{List, [], ◌∷◌, ◌↔◌, ℕ}
use Rattle.score_tables.specs.Sound.{LabelsIn, WordsIn}
use Rattle.refusal_rows.specs.Limits.{Limit, Fitting}
use Rattle.refusal_rows.specs.Tests.{Test, AllGood, FirstBadOf}
use Rattle.refusal_rows.specs.Given.{AtZero, OneOf}

module _ (labels words : ℕ) (counts rooms : List Limit) (starts ids numbers : List Test) where
  -- nothing of 1, 4, 2, 3, 5 and 6 applies
  abbrev pub Unrefused : Type 0
  Unrefused = LabelsIn labels × (WordsIn words × (Fitting counts rooms × (AllGood starts × (AllGood ids × AllGood numbers))))

  -- `Refuses number place` says how a refusal is answered, `Accepts` how none is; before each number stands what was tested and found fine
  pub record Answers (Refuses : ℕ → ℕ → Type 0) (Accepts : Type 0) (EightAt : ℕ → Type 0) (AllFinite : Type 0) : Type 0 where
    pub one : (place : ℕ) → Refuses 1 place ↔ AtZero (LabelsIn labels) place
    pub four : (place : ℕ) → Refuses 4 place ↔ LabelsIn labels × AtZero (WordsIn words) place
    pub two : (place : ℕ) → Refuses 2 place ↔ (LabelsIn labels × WordsIn words) × AtZero (Fitting counts rooms) place
    pub three : (place : ℕ) → Refuses 3 place ↔ (LabelsIn labels × (WordsIn words × Fitting counts rooms)) × FirstBadOf starts place
    pub five : (place : ℕ) → Refuses 5 place ↔ (LabelsIn labels × (WordsIn words × (Fitting counts rooms × AllGood starts))) × FirstBadOf ids place
    pub six : (place : ℕ) → Refuses 6 place ↔ (LabelsIn labels × (WordsIn words × (Fitting counts rooms × (AllGood starts × AllGood ids)))) × FirstBadOf numbers place
    -- "a finished state or transition score or feature count is not finite"
    pub eight : (place : ℕ) → Refuses 8 place ↔ Unrefused × EightAt place
    pub only : (number place : ℕ) → Refuses number place → OneOf (1 ∷ 4 ∷ 2 ∷ 3 ∷ 5 ∷ 6 ∷ 8 ∷ []) number
    pub accepted : Accepts ↔ Unrefused × AllFinite
