-- Groups of rows that calls on score tables share: two rows of one number, whose place is 0, and 6 of the two tables. Assumes nothing.
use mathlib.Core.Path.{◌≡◌}
use mathlib.Core.List.{List, [], ◌∷◌}
use mathlib.Core.Logic.{◌↔◌, inl, inr}
use Prim.Native.Nat.{ℕ, ◌*◌}
use lib.Ieee.{Float}
use Rattle.refusals.specs.Refusals.{Checked}
use Rattle.refusals.specs.Meaning.{FirstRefused}
use Rattle.refusals.proofs.Laws.{place_of_lem}
use Rattle.score_tables.specs.Rows.{sixes}
use Rattle.score_tables.specs.Meaning.{Row, SixAt}
use Rattle.fronts.specs.Finite.{FiniteTo}
use Rattle.score_tables.proofs.Order.{not_row, why, of_two}
use Rattle.score_tables.proofs.Meant.{finite_to, to_finite, not_six, six_means}
use Rattle.refusal_rows.specs.Given.{AtZero}
use Rattle.refusal_rows.proofs.Groups.{Group}

-- two rows of one number
module _ {a b : Checked} {number : ℕ} {P Q : Type 0} (r : Row a number P) (s : Row b number Q) where
  pub at_zero_of_two : (place : ℕ) → FirstRefused (why number place) (a ∷ b ∷ []) ↔ AtZero (P × Q) place
  at_zero_of_two place = (λ h. let z = zero h in (z, (of_two r s).0 (rw z at h)), λ p. rw p.0 ((of_two r s).1 p.1))
    where
      zero : FirstRefused (why number place) (a ∷ b ∷ []) → place ≡ 0
      zero (inl e) = place_of_lem (r.only _ e)
      zero (inr (_, inl e)) = place_of_lem (s.only _ e)
      zero (inr (_, inr (_, h))) = absurd h

  abbrev pub pair : Group
  pair = record {
    number = number;
    rows = a ∷ b ∷ [];
    Fine = P × Q;
    At = AtZero (P × Q);
    fine = (λ h. (r.accepted.0 h.0, s.accepted.0 h.1.0), λ f. (r.accepted.1 f.0, (s.accepted.1 f.1, tt)));
    at = at_zero_of_two;
    other = λ k d. (not_row r d, (not_row s d, tt));
  }

-- 6 of the transitions, then of the states
abbrev pub table_sixes : (labels words : ℕ) (transitions states : List Float) → Group
table_sixes labels words transitions states = record {
  number = 6;
  rows = sixes labels words transitions states;
  Fine = FiniteTo transitions (labels * labels) × FiniteTo states (words * labels);
  At = SixAt labels words transitions states;
  fine = (
    λ h. (finite_to transitions _ h.0, finite_to states _ h.1.0),
    λ f. (to_finite transitions _ f.0, (to_finite states _ f.1, tt)),
  );
  at = six_means labels words transitions states;
  other = not_six labels words transitions states;
}
