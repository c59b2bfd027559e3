-- Every call on a single line whose checks mean what `line_check` says, and whose 8 means what `Eight` says, answers as `Answers` says. Assumes nothing.
use Rattle.std.specs.Prelude.{Ok}
use mathlib.Core.Path.{◌≡◌}
use mathlib.Core.List.{List, [], ◌∷◌}
use mathlib.Core.Logic.{◌↔◌, inl, inr, ⊎_elim}
use Prim.Native.Nat.{ℕ, ◌<◌}
use native.Mathlib.Omega.{arith}
use Rattle.refusals.specs.Refusals.{Checked, refused_at, or_next_of}
use Rattle.refusals.proofs.Laws.{either}
use Rattle.refusal_rows.specs.Limits.{Limit}
use Rattle.refusal_rows.specs.Tests.{Test}
use Rattle.refusal_rows.specs.Given.{OneOf}
use Rattle.line_check.specs.Meaning.{Meaning}
use Rattle.finished.specs.Meaning.{Eight, Last}
use Rattle.finished.specs.Answers.{Answers}
use Rattle.finished.proofs.Meant.{eight_is_last, not_eight}

module _
    (checked finished : Checked)
    (labels words : ℕ) (counts rooms : List Limit) (starts ids numbers : List Test) (EightAt : ℕ → Type 0) (AllFinite : Type 0)
    (m : Meaning checked labels words counts rooms starts ids numbers) (e : Eight finished AllFinite EightAt)
    (Refuses : ℕ → ℕ → Type 0) (Accepts : Type 0)
    (to : (number place : ℕ) → Refuses number place → or_next_of checked finished ≡ refused_at number place)
    (from : (number place : ℕ) → 0 < number → or_next_of checked finished ≡ refused_at number place → Refuses number place)
    (accepts : Accepts ↔ or_next_of checked finished ≡ Ok tt) where
  abbrev last : Last checked finished AllFinite EightAt
  last = eight_is_last checked finished AllFinite EightAt (λ why h. not_eight why.number (m.only why h)) e

  -- a number that the checks give beforehand
  early : {Fine : ℕ → Type 0} (number : ℕ) → 0 < number → (number ≡ 8 → ⊥) → ((place : ℕ) → checked ≡ refused_at number place ↔ Fine place) → (place : ℕ) → Refuses number place ↔ Fine place
  early number above apart means place = (
    λ h. (means place).0 ((last.before _ apart).0 (to number place h)),
    λ f. from number place above ((last.before _ apart).1 ((means place).1 f)),
  )

  more : (number : ℕ) → OneOf (1 ∷ 4 ∷ 2 ∷ 3 ∷ 5 ∷ 6 ∷ []) number → OneOf (1 ∷ 4 ∷ 2 ∷ 3 ∷ 5 ∷ 6 ∷ 8 ∷ []) number
  more number (inl h) = inl h
  more number (inr (inl h)) = inr (inl h)
  more number (inr (inr (inl h))) = inr (inr (inl h))
  more number (inr (inr (inr (inl h)))) = inr (inr (inr (inl h)))
  more number (inr (inr (inr (inr (inl h))))) = inr (inr (inr (inr (inl h))))
  more number (inr (inr (inr (inr (inr (inl h)))))) = inr (inr (inr (inr (inr (inl h)))))
  more number (inr (inr (inr (inr (inr (inr h)))))) = absurd h

  pub answered : Answers labels words counts rooms starts ids numbers Refuses Accepts EightAt AllFinite
  answered = record {
    one = early 1 (omega arith) (λ q. omega arith) m.one;
    four = early 4 (omega arith) (λ q. omega arith) m.four;
    two = early 2 (omega arith) (λ q. omega arith) m.two;
    three = early 3 (omega arith) (λ q. omega arith) m.three;
    five = early 5 (omega arith) (λ q. omega arith) m.five;
    six = early 6 (omega arith) (λ q. omega arith) m.six;
    eight = λ place. (
      λ h. let p = (last.eight place).0 (to 8 place h) in (m.accepted.0 p.0, p.1),
      λ f. from 8 place (omega arith) ((last.eight place).1 (m.accepted.1 f.0, f.1)),
    );
    only = λ number place h.
        ⊎_elim
        (λ c. more number (m.only _ c))
        (λ p. inr (inr (inr (inr (inr (inr (inl (e.only _ p.1))))))))
        (either checked finished _ (to number place h));
    accepted = (
      λ h. let p = last.accepted.0 (accepts.0 h) in (m.accepted.0 p.0, p.1),
      λ f. accepts.1 (last.accepted.1 (m.accepted.1 f.0, f.1)),
    );
  }
