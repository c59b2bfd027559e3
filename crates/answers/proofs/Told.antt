-- What the numbers tell of the check behind an answer, whatever an accepted call gives: they give the check's refusal, and are 0 exactly where it accepts. Assumes nothing.
use Rattle.std.specs.Prelude.{Ok, Err}
use mathlib.Core.Path.{◌≡◌, refl, sym, ◌∙◌}
use mathlib.Core.Logic.{◌↔◌}
use Prim.Native.Nat.{ℕ, ◌<◌}
use native.Mathlib.Omega.{arith}
use lib.Ieee.{Float}
use Rattle.refusals.specs.declared.Refusal.{Refusal}
use Rattle.refusals.specs.Refusals.{Checked, numbered, refused_at}
use Rattle.refusals.specs.Said.{Said, accepted, refused, or_refused}
use Rattle.best_path.specs.Lead.{Lead, none, by}
use Rattle.answers.specs.Numbers.{with_lead}
use Rattle.answers.specs.Given.{Gives}

-- the number and the place that are made of what is said
module _
    {A : Type 0} (number place : Said A → ℕ) (x : A)
    (no_number : number (accepted x) ≡ 0)
    (its_number : (why : Refusal) → number (refused why) ≡ why.number) (its_place : (why : Refusal) → place (refused why) ≡ why.place) where
  pub gives_refusal : (check : Checked) (n p : ℕ) → Gives (number (or_refused check (accepted x))) (place (or_refused check (accepted x))) n p → check ≡ refused_at n p
  gives_refusal (Ok _) n p g = absurd (omega (arith, no_number, g.refusal, g.number_is))
  gives_refusal (Err why) n p g =
      let a : why.number ≡ n = sym (its_number why) ∙ g.number_is in
      let b : why.place ≡ p = sym (its_place why) ∙ g.place_is in
      rw (← a, ← b)

  pub refusal_given : (check : Checked) (n p : ℕ) → 0 < n → check ≡ refused_at n p → Gives (number (or_refused check (accepted x))) (place (or_refused check (accepted x))) n p
  refusal_given check n p above h = rw h (record { refusal = above; number_is = its_number (numbered n p); place_is = its_place (numbered n p) })

  pub zero_accepted : (check : Checked) → ((n p : ℕ) → check ≡ refused_at n p → 0 < n) → number (or_refused check (accepted x)) ≡ 0 ↔ check ≡ Ok tt
  zero_accepted check above = (go check above, λ h. rw h no_number)
    where
      go : (check : Checked) → ((n p : ℕ) → check ≡ refused_at n p → 0 < n) → number (or_refused check (accepted x)) ≡ 0 → check ≡ Ok tt
      go (Ok _) above h = refl
      go (Err why) above h = absurd (omega (arith, its_number why, above why.number why.place refl))

-- a decoded line
pub number_of_lem : (sum : Float) (lead : Lead) → (with_lead sum lead).number ≡ 0
number_of_lem sum none = refl
number_of_lem sum (by x) = refl

pub sum_of : (sum : Float) (lead : Lead) → (with_lead sum lead).sum ≡ sum
sum_of sum none = refl
sum_of sum (by x) = refl
