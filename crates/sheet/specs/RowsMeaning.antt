-- What the rows of a sheet mean in plain terms: each number exactly when document 01 gives it, both ways. The proofs are in proofs/RowsMeant.
use Rattle.std.specs.Prelude.{◌≡◌, List, [], ◌∷◌, ◌↔◌, ◌⊎◌, ℕ, ◌*◌, ◌≤◌, length, take, Ok}
use Rattle.refusals.specs.Refusals.{refused_at}
use Rattle.score_tables.specs.Sound.{LabelsIn, WordsIn, ScoresRoom}
use Rattle.score_tables.specs.Meaning.{SixAt}
use Rattle.fronts.specs.Finite.{FiniteTo}
use Rattle.refusal_rows.specs.Given.{OneOf}
use Rattle.sheet.specs.Fields.{mark, version_in_of, labels_in_of, words_in, whole_length_of, transitions_in_of, states_in_of}
use Rattle.sheet.specs.Rows.{Given, Lent, sheet_checked}

-- "Bytes `TLG`, version 1", and "the eight bytes of head" are there
pub record RightHead (bytes : List ℕ) : Type 0 where
  pub whole : 8 ≤ length bytes
  pub marked : take 3 bytes ≡ mark
  pub version : version_in_of bytes ≡ 1

-- the head is right, and its L and T are in their bounds
pub record InBounds (bytes : List ℕ) : Type 0 where
  pub head : RightHead bytes
  pub labels : LabelsIn (labels_in_of bytes)
  pub words : WordsIn (words_in bytes)

-- the head, the transitions and the states, "nothing after"
abbrev pub RightLength : List ℕ → Type 0
RightLength bytes = length bytes ≡ whole_length_of bytes

-- 10, 1, 4 and 6 do not apply
pub record RightFile (bytes : List ℕ) : Type 0 where
  pub in_bounds : InBounds bytes
  pub right_length : RightLength bytes
  pub finite_transitions : FiniteTo (transitions_in_of bytes) (labels_in_of bytes * labels_in_of bytes)
  pub finite_states : FiniteTo (states_in_of bytes) (words_in bytes * labels_in_of bytes)

-- a call on these bytes: `Is number place` says that it answers this refusal, `Accepts` that it answers none, and `Fits` that what it is lent is long enough
pub record Meaning (Is : ℕ → ℕ → Type 0) (Accepts : Type 0) (bytes : List ℕ) (Fits : Type 0) : Type 0 where
  -- the head is wrong, or else all up to 2 is right and the length is wrong
  pub ten : Is 10 0 ↔ ((RightHead bytes → ⊥) ⊎ ((InBounds bytes × Fits) × (RightLength bytes → ⊥)))
  pub one : Is 1 0 ↔ (RightHead bytes × (LabelsIn (labels_in_of bytes) → ⊥))
  pub four : Is 4 0 ↔ ((RightHead bytes × LabelsIn (labels_in_of bytes)) × (WordsIn (words_in bytes) → ⊥))
  pub two : Is 2 0 ↔ (InBounds bytes × (Fits → ⊥))
  pub six : (place : ℕ) → Is 6 place ↔ (((InBounds bytes × Fits) × RightLength bytes) × SixAt (labels_in_of bytes) (words_in bytes) (transitions_in_of bytes) (states_in_of bytes) place)
  -- and no other refusal
  pub only : (number place : ℕ) → Is number place → (number ≡ 6) ⊎ ((place ≡ 0) × OneOf (10 ∷ 1 ∷ 4 ∷ 2 ∷ []) number)
  pub accepted : Accepts ↔ (RightFile bytes × Fits)

-- the reader: 2 does not apply where each lent table has room for the file's
abbrev pub SheetsMean : Type 0
SheetsMean =
    (given : Given) (before : Lent) →
    let bytes = given.bytes in
    Meaning (λ number place. sheet_checked given before ≡ refused_at number place) (sheet_checked given before ≡ Ok tt) bytes
    (ScoresRoom (labels_in_of bytes) (words_in bytes) before.transitions before.states)
