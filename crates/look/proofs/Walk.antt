-- The steps of a walk through a name. Assumes nothing.
use mathlib.Core.Path.{◌≡◌, refl, ◌∙◌}
use mathlib.Core.Bool.{Bool, true, false, ◌||◌}
use mathlib.Core.List.{List}
use Rattle.std.proofs.lemmas.Bool.Decides.{nat_tests}
use Prim.Native.Nat.{ℕ, ◌+◌, ◌-◌, ◌≤◌, ◌<◌}
use native.Mathlib.Omega.{arith}
use native.Mathlib.Nat.{le_refl}
use lib.Dec.{eqb}
use lib.ListN.{length, get_or}
use Rattle.layout.specs.Scan.{next_mode_of, class_of, alive}
use Rattle.layout.proofs.Laws.{look_on, step_plain}
use Rattle.look.specs.declared.Stop.{Stop}
use Rattle.layout.specs.declared.Mode.TheVariants.{Inside}
use Rattle.look.specs.Windows.{Window, name_mode, WalkedTo, Passed}

before_end : (at end : ℕ) → at ≤ end → (at ≡ end → ⊥) → at < end
before_end at end h n = omega (arith, h, n)

pub still : (text : List ℕ) (slashed : Bool) (at end : ℕ) → Window text at end → WalkedTo text slashed at end (record { at = at; slashed = slashed })
still text slashed at end w = record { forward = le_refl at; inside = w.forward; same = λ k. refl }

pub read_here : (text : List ℕ) (at end : ℕ) → Window text at end → (at ≡ end → ⊥) → at < length text
read_here text at end w n = let a = w.forward in let b = w.inside in omega (arith, a, b, n)

pub next : (text : List ℕ) (at end : ℕ) → Window text at end → (at ≡ end → ⊥) → Window text (at + 1) end
next text at end w n =
    let a = w.forward in
    let b = w.short in
    record { forward = omega (arith, a, n); inside = w.inside; short = omega (arith, b) }

pub less : (t at end : ℕ) → end - at ≡ t → at ≤ end → (at ≡ end → ⊥) → end - (at + 1) < t
less t at end e h n = omega (arith, e, h, n)

pub on : (text : List ℕ) (s s' : Bool) (at end : ℕ) (r : Stop) → Window text at end → (at ≡ end → ⊥)
    → ((k : Bool) → name_mode s' k ≡ next_mode_of (name_mode s k) (class_of (get_or text at 0)))
    → WalkedTo text s' (at + 1) end r → WalkedTo text s at end r
on text s s' at end r w n e g =
    let f = g.forward in
    record {
      forward = omega (arith, f);
      inside = g.inside;
      same = λ k. look_on (name_mode s k) (name_mode s' k) text at (read_here text at end w n) (e k) (living s' k) ∙ g.same k;
    }
  where
    living : (s k : Bool) → alive (name_mode s k) ≡ true
    living true k = refl
    living false k = refl

-- a run of plain characters
pub one_further : (text : List ℕ) (at end i : ℕ) → Window text at end → Passed text at end i → i < end
    → ((k : Bool) → Inside k ≡ next_mode_of (Inside k) (class_of (get_or text i 0))) → Passed text at end (i + 1)
one_further text at end i w p h e =
    let f = p.forward in
    let b = w.inside in
    record {
      forward = omega (arith, f);
      inside = omega (arith, h);
      same = λ k. p.same k ∙ look_on (Inside k) (Inside k) text i (omega (arith, h, b)) (e k) refl;
    }

pub plain_on : (k : Bool) (b : ℕ) → ((eqb b 92 || eqb b 9) || eqb b 10) || eqb b 58 ≡ false → Inside k ≡ next_mode_of (Inside k) (class_of b)
plain_on k b e = step_plain k b (λ h. grind (arith, nat_tests)) (grind (arith, nat_tests))
