-- What `set_weights` refuses, in plain terms: each number exactly when document 01 gives it, and with which place; of the check, and of whatever satisfies the promise. The proofs are in proofs/Meant; for C in model_exports.
use Rattle.std.specs.Prelude.{◌≡◌, List, [], ◌∷◌, ◌↔◌, ℕ, length, Float, Ok}
use Rattle.refusals.specs.Refusals.{refused_at}
use Rattle.refusal_rows.specs.Limits.{Fitting}
use Rattle.refusal_rows.specs.Tests.{AllGood, FirstBadOf}
use Rattle.refusal_rows.specs.Given.{AtZero, OneOf}
use Rattle.set_weights.specs.SetWeights.{Setting, Outcome, new_counts, new_rooms, new_tests, new_checked, WeightsSet}

-- `Refuses number place` says how a refusal is answered, `Accepts` how none is, for a table that has so many places
pub record Meaning (Refuses : ℕ → ℕ → Type 0) (Accepts : Type 0) (given : Setting) (have : ℕ) : Type 0 where
  pub two : (place : ℕ) → Refuses 2 place ↔ AtZero (Fitting (new_counts given) (new_rooms given have)) place
  pub six : (place : ℕ) → Refuses 6 place ↔ Fitting (new_counts given) (new_rooms given have) × FirstBadOf (new_tests given) place
  pub only : (number place : ℕ) → Refuses number place → OneOf (2 ∷ 6 ∷ []) number
  pub accepted : Accepts ↔ Fitting (new_counts given) (new_rooms given have) × AllGood (new_tests given)

abbrev pub NewWeightsMean : Type 0
NewWeightsMean = (given : Setting) (have : ℕ) → Meaning (λ number place. new_checked given have ≡ refused_at number place) (new_checked given have ≡ Ok tt) given have

-- of whatever satisfies the promise of `set_weights`
abbrev pub AnswersMean : Type 0
AnswersMean = (given : Setting) (before : List Float) (outcome : Outcome) → WeightsSet given before outcome →
    Meaning (λ number place. outcome.answer ≡ refused_at number place) (outcome.answer ≡ Ok tt) given (length before)
