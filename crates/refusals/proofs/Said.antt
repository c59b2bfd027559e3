-- What is said tells the check behind it: a refusal is the check's own, and what was given was accepted. Assumes nothing.
use Rattle.std.specs.Prelude.{Ok, Err}
use mathlib.Core.Path.{◌≡◌, refl, ap}
use mathlib.Core.Logic.{◌↔◌}
use Prim.Native.Nat.{ℕ}
use native.Mathlib.Omega.{arith}
use Rattle.refusals.specs.declared.Refusal.{Refusal}
use Rattle.refusals.specs.Refusals.{Checked, numbered}
use Rattle.refusals.specs.Said.{Said, accepted, refused, or_refused, said_of}

-- a refusal is its number and its place
pub same_parts : (v w : Refusal) → v.number ≡ w.number → v.place ≡ w.place → v ≡ w
same_parts v w n p = let e : ◌≡◌ {A = Refusal} (numbered v.number v.place) (numbered w.number w.place) = rw (n, p) in e

module _ {A : Type 0} where
  pub apart : {x : A} {why : Refusal} → accepted x ≡ refused why → ⊥
  apart {x} {why} h = let z : ◌≡◌ {A = ℕ} 0 1 = cc in omega arith

  pub same_given : {x y : A} → ◌≡◌ {A = Said A} (accepted x) (accepted y) → x ≡ y
  same_given h = cc

  pub same_refusal : {v w : Refusal} → ◌≡◌ {A = Said A} (refused v) (refused w) → v ≡ w
  same_refusal h = cc

  pub refused_said : (x : A) (check : Checked) (why : Refusal) → or_refused check (accepted x) ≡ refused why ↔ check ≡ Err why
  refused_said x check why = (told check, ap (λ (c : Checked). or_refused c (accepted x)))
    where
      told : (check : Checked) → or_refused check (accepted x) ≡ refused why → check ≡ Err why
      told (Ok _) h = absurd (apart h)
      told (Err w) h = ap Err (same_refusal h)

  pub accepted_said : (x y : A) (check : Checked) → or_refused check (accepted x) ≡ accepted y → check ≡ Ok tt
  accepted_said x y (Ok _) h = refl
  accepted_said x y (Err w) h = let z : ◌≡◌ {A = ℕ} 0 1 = cc in absurd (omega arith)

-- a call that gives nothing but its acceptance says what the check says, and no more
pub done_said : (check : Checked) → said_of check ≡ accepted tt ↔ check ≡ Ok tt
done_said check = (accepted_said tt tt check, ap said_of)

pub said_once : (a b : Checked) → said_of a ≡ said_of b → a ≡ b
said_once a (Ok _) h = accepted_said tt tt a h
said_once a (Err why) h = (refused_said tt a why).0 h
