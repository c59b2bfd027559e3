-- Parameters are refused exactly when they are not fit, by the first that is not. Assumes nothing.
use Rattle.std.specs.Prelude.{Ok}
use mathlib.Core.Path.{◌≡◌, refl, sym}
use mathlib.Core.Bool.{Bool, true, false, not, ◌||◌}
use mathlib.Core.List.{List, [], ◌∷◌}
use mathlib.Core.Logic.{◌↔◌, inl, inr}
use Prim.Native.Nat.{ℕ}
use native.Mathlib.Omega.{arith}
use borrow.Author.Tests.{ltb-false, le-ltb, not-false}
use lib.Dec.{T}
use lib.Ieee.{Float, lt}
use lib.Ieee.Scale.{finite}
use Rattle.refusals.specs.Refusals.{Checked, refused_at, refuse}
use Rattle.refusals.specs.Bounds.{the_epochs, most}
use Rattle.refusals.specs.Meaning.{AllAccepted, FirstRefused}
use Rattle.refusals.proofs.Laws.{passes, holds, never, neither, test_number, place_of_lem}
use Rattle.score_tables.proofs.Order.{Never, why}
use Rattle.refusal_rows.proofs.Means.{outside_means}
use Rattle.refusal_rows.proofs.Groups.{Group}
use Rattle.binary64.specs.Numbers.{nought}
use Rattle.parameters.specs.Parameters.{Parameter, epochs, epsilon, scale, gamma, variant, parameter_number, last_variant, negative, not_above_zero, unfit, sevens, Fit, AllFit, FirstUnfit}

holds_if : (b : Bool) → not b ≡ false ↔ T b
holds_if true = (λ h. tt, λ t. refl)
holds_if false = (λ h. let z : ◌≡◌ {A = ℕ} 0 1 = cc in absurd (omega arith), λ t. absurd t)

neither_if : (a b : Bool) → a ≡ false → b ≡ false → (a || b) ≡ false
neither_if a b p q = rw (p, q)

negative_means : (x : Float) → negative x ≡ false ↔ (lt x nought ≡ false) × T (finite x)
negative_means x = (
  λ h. let n = neither (lt x nought) (not (finite x)) h in (n.0, (holds_if (finite x)).0 n.1),
  λ f. neither_if (lt x nought) (not (finite x)) f.0 ((holds_if (finite x)).1 f.1),
)

positive_means : (x : Float) → not_above_zero x ≡ false ↔ (lt nought x ≡ true) × T (finite x)
positive_means x = (
  λ h. let n = neither (not (lt nought x)) (not (finite x)) h in (not-false (lt nought x) n.0, (holds_if (finite x)).0 n.1),
  λ f. neither_if (not (lt nought x)) (not (finite x)) (rw f.0) ((holds_if (finite x)).1 f.1),
)

pub fit_means : (p : Parameter) → unfit p ≡ false ↔ Fit p
fit_means (epochs n) = outside_means 1 (most the_epochs) n
fit_means (epsilon x) = negative_means x
fit_means (scale x) = positive_means x
fit_means (gamma x) = positive_means x
fit_means (variant v) = (ltb-false last_variant v, le-ltb last_variant v)

-- one row
module _ (p : Parameter) where
  abbrev row : Checked
  row = refuse 7 (parameter_number p) (unfit p)

  accepted_means : row ≡ Ok tt ↔ Fit p
  unfolding refuse
  accepted_means = (λ h. (fit_means p).0 (passes 7 (parameter_number p) (unfit p) h), λ f. rw ((fit_means p).1 f))

  refused_means : (number : ℕ) → row ≡ refused_at 7 number ↔ (number ≡ parameter_number p) × (Fit p → ⊥)
  unfolding refuse
  refused_means number = (
    λ h. (place_of_lem (holds 7 (parameter_number p) (unfit p) _ h).1, λ f. never (accepted_means.1 f) h),
    λ w. rw w.0 (if_unfit (unfit p) (λ e. w.1 ((fit_means p).0 e))),
  )
    where
      if_unfit : (test : Bool) → (test ≡ false → ⊥) → refuse 7 (parameter_number p) test ≡ refused_at 7 (parameter_number p)
      if_unfit true n = refl
      if_unfit false n = absurd (n refl)

pub all_means : (ps : List Parameter) → AllAccepted (sevens ps) ↔ AllFit ps
all_means [] = (λ a. a, λ f. f)
all_means (p ∷ ps) =
    let m = accepted_means p in
    let r = all_means ps in
    (λ a. (m.0 a.0, r.0 a.1), λ f. (m.1 f.0, r.1 f.1))

pub first_means : (ps : List Parameter) (number : ℕ) → FirstRefused (why 7 number) (sevens ps) ↔ FirstUnfit ps number
first_means ps number = (to ps, from ps)
  where
    to : (ps : List Parameter) → FirstRefused (why 7 number) (sevens ps) → FirstUnfit ps number
    to [] h = h
    to (p ∷ ps) (inl e) = inl ((refused_means p number).0 e)
    to (p ∷ ps) (inr w) = inr ((accepted_means p).0 w.0, to ps w.1)

    from : (ps : List Parameter) → FirstUnfit ps number → FirstRefused (why 7 number) (sevens ps)
    from [] h = h
    from (p ∷ ps) (inl e) = inl ((refused_means p number).1 e)
    from (p ∷ ps) (inr w) = inr ((accepted_means p).1 w.0, from ps w.1)

pub never_means : (ps : List Parameter) (k : ℕ) → (7 ≡ k → ⊥) → Never k (sevens ps)
never_means [] k d = tt
never_means (p ∷ ps) k d = (λ place h. d (sym (test_number 7 (parameter_number p) (unfit p) _ h)), never_means ps k d)

-- a trainer's own parameters: fine when all are fit, refused with the number of the first that is not
abbrev pub fitness : List Parameter → Group
fitness ps = record {
  number = 7;
  rows = sevens ps;
  Fine = AllFit ps;
  At = FirstUnfit ps;
  fine = all_means ps;
  at = first_means ps;
  other = never_means ps;
}
