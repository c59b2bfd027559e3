-- What decoding a line answers, in plain terms: each number exactly when document 01 gives it, and with which place; of the check, and of whatever satisfies the promise. The proofs are in proofs/Meant; for C in decoding_exports.
use Rattle.std.specs.Prelude.{◌≡◌, List, [], ◌∷◌, ◌↔◌, ℕ, ◌≤◌, length, Float, Ok}
use Rattle.refusals.specs.Refusals.{refused_at, numbered}
use Rattle.score_tables.specs.Sound.{LabelsIn, WordsIn, ScoresRoom, SoundScores}
use Rattle.score_tables.specs.Meaning.{SixAt}
use Rattle.refusal_rows.specs.Given.{AtZero, OneOf}
use Rattle.viterbi.specs.Rows.{decode_checked}
use Rattle.refusals.specs.Said.{refused}
use Rattle.best_path.specs.Lead.{Lead}
use Rattle.viterbi.specs.Promise.{Given, Outcome, decoded, said, Promised}

-- each table has its entries, and the path's buffer has room for T labels
abbrev pub AllRoom : ℕ → ℕ → List Float → List Float → List ℕ → Type 0
AllRoom labels words transitions states path = ScoresRoom labels words transitions states × (words ≤ length path)

-- `Refuses number place` says how a refusal is answered, `Accepts` how none is; before each number stands what was tested and found fine
pub record Meaning (Refuses : ℕ → ℕ → Type 0) (Accepts : Type 0) (labels words : ℕ) (transitions states : List Float) (path : List ℕ) : Type 0 where
  pub one : (place : ℕ) → Refuses 1 place ↔ AtZero (LabelsIn labels) place
  pub four : (place : ℕ) → Refuses 4 place ↔ LabelsIn labels × AtZero (WordsIn words) place
  pub two : (place : ℕ) → Refuses 2 place ↔ (LabelsIn labels × WordsIn words) × AtZero (AllRoom labels words transitions states path) place
  pub six : (place : ℕ) → Refuses 6 place ↔ (LabelsIn labels × (WordsIn words × AllRoom labels words transitions states path)) × SixAt labels words transitions states place
  pub only : (number place : ℕ) → Refuses number place → OneOf (1 ∷ 4 ∷ 2 ∷ 6 ∷ []) number
  pub accepted : Accepts ↔ SoundScores labels words transitions states × (words ≤ length path)

abbrev pub DecodingMeans : Type 0
DecodingMeans =
    (labels words : ℕ) (transitions states : List Float) (path : List ℕ) →
    Meaning (λ number place. decode_checked labels words transitions states path ≡ refused_at number place)
    (decode_checked labels words transitions states path ≡ Ok tt)
    labels words transitions states path

-- of the call: a decoded line exactly when no number is given
abbrev pub AnswersMean : Type 0
AnswersMean =
    (given : Given) (before : List ℕ) (outcome : Outcome) → Promised given before outcome →
    Meaning (λ number place. said outcome.answer ≡ refused (numbered number place))
    ((sum : Float) × (lead : Lead) × (said outcome.answer ≡ decoded sum lead))
    given.labels given.words given.transitions given.states before
