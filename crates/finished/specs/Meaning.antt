-- What 8 means in plain terms: exactly when it is given, and with which place. The proofs are in proofs/Meant.
use Rattle.std.specs.Prelude.{◌≡◌, true, ◌&&◌, List, ◌↔◌, ℕ, ◌+◌, ◌*◌, Float, Ok, Err}
use Rattle.refusals.specs.declared.Refusal.{Refusal}
use Rattle.refusals.specs.Refusals.{Checked, refused_at, or_next_of}
use Rattle.refusals.specs.Meaning.{FirstBad}
use Rattle.fronts.specs.Finite.{FiniteTo, NotFinite, all_finite_of}
use Rattle.finished.specs.Rows.{finished_checked, scores_finished}

-- a check that gives 8 exactly at the places that it should, and no other number
pub record Eight (check : Checked) (Fine : Type 0) (At : ℕ → Type 0) : Type 0 where
  pub accepted : check ≡ Ok tt ↔ Fine
  pub refused : (place : ℕ) → check ≡ refused_at 8 place ↔ At place
  pub only : (why : Refusal) → check ≡ Err why → why.number ≡ 8

-- "counts: feature id": the first count that is not finite
abbrev pub CountsFinishedMean : Type 0
CountsFinishedMean = (counts : List Float) (features : ℕ) → Eight (finished_checked counts features) (FiniteTo counts features) (FirstBad (NotFinite counts) features)

-- 8 is not given exactly where the finite test of the front passes
abbrev pub TestAccepts : Type 0
TestAccepts = (numbers : List Float) (n : ℕ) → finished_checked numbers n ≡ Ok tt ↔ all_finite_of numbers n ≡ true

-- of a line's scores exactly where both tests pass
abbrev pub TestsAccept : Type 0
TestsAccept = (labels words : ℕ) (states transitions : List Float) →
    scores_finished labels words states transitions ≡ Ok tt ↔ all_finite_of states (words * labels) && all_finite_of transitions (labels * labels) ≡ true

-- "table: t·L+l, then T·L+prev·L+next": the first state that is not finite, or, where all states are finite, the first such transition
pub data EightAt (labels words : ℕ) (states transitions : List Float) (place : ℕ) : Type 0 where
  in_states :
      FirstBad (NotFinite states) (words * labels) place →
      EightAt labels words states transitions place
  in_transitions :
      FiniteTo states (words * labels) →
      (entry : ℕ) →
      place ≡ words * labels + entry →
      FirstBad (NotFinite transitions) (labels * labels) entry →
      EightAt labels words states transitions place

abbrev pub ScoresFinishedMean : Type 0
ScoresFinishedMean = (labels words : ℕ) (states transitions : List Float) →
    Eight (scores_finished labels words states transitions)
    (FiniteTo states (words * labels) × FiniteTo transitions (labels * labels))
    (EightAt labels words states transitions)

-- 8 comes after all that a call tests beforehand: it is given exactly when nothing of that applies
pub record Last (checked finished : Checked) (Fine : Type 0) (At : ℕ → Type 0) : Type 0 where
  pub eight : (place : ℕ) → or_next_of checked finished ≡ refused_at 8 place ↔ (checked ≡ Ok tt) × At place
  pub before : (why : Refusal) → (why.number ≡ 8 → ⊥) → or_next_of checked finished ≡ Err why ↔ checked ≡ Err why
  pub accepted : or_next_of checked finished ≡ Ok tt ↔ (checked ≡ Ok tt) × Fine

abbrev pub EightIsLast : Type 1
EightIsLast = (checked finished : Checked) (Fine : Type 0) (At : ℕ → Type 0) →
    ((why : Refusal) → checked ≡ Err why → why.number ≡ 8 → ⊥) →
    Eight finished Fine At →
    Last checked finished Fine At
