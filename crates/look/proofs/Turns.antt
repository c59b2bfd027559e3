-- The laws of a turn. Assumes nothing.
use Rattle.std.specs.Prelude.{Ok, Err}
use mathlib.Core.Path.{◌≡◌, refl, sym, ap, ◌∙◌}
use mathlib.Core.Bool.{Bool, true, false, true≢false, false≢true, cond}
use mathlib.Core.List.{List}
use Prim.Native.Nat.{ℕ, ◌+◌, ◌≤◌, ◌<◌}
use native.Mathlib.Omega.{arith}
use lib.ListN.{length, get_or, drop}
use Rattle.layout.specs.declared.Mode.{Mode}
use Rattle.layout.specs.declared.Mode.TheVariants.{Begin, Bad}
use Rattle.layout.specs.Scan.{next_mode_of, class_of, alive, accepting, look_from, look}
use Rattle.layout.proofs.Laws.{look_on, look_dead, look_end}
use Rattle.look.specs.declared.Stop.{Stop}
use Rattle.look.specs.Windows.{Window, WalkedTo, Passed, name_mode}
use Rattle.look.specs.declared.Reached.{Reached}
use Rattle.look.specs.Turns.{Onward, Turned}

living : (s k : Bool) → alive (name_mode s k) ≡ true
living true k = refl
living false k = refl

pub named : (text : List ℕ) (slashed k : Bool) (at end : ℕ) (s : Stop) (r : Reached) (q : Mode) → q ≡ name_mode slashed k
    → WalkedTo text slashed at end s → (r.at ≡ s.at) × (r.mode ≡ name_mode s.slashed k) → Onward text q at end r
named text slashed k at end s r q e w g = record {
  forward = rw g.0 w.forward;
  inside = rw g.0 w.inside;
  same = rw (e, g.0, g.1) (w.same k);
  living = rw (e, g.1) (living s.slashed k ∙ sym (living slashed k));
}

-- behind a run of plain characters the window is still one, and a walk from there is a walk from its start
pub later : (text : List ℕ) (at end i : ℕ) → Window text at end → Passed text at end i → Window text i end
later text at end i w p =
    let f = p.forward in
    let s = w.short in
    record { forward = p.inside; inside = w.inside; short = omega (arith, f, s) }

pub walked_on : (text : List ℕ) (at end i : ℕ) (s : Stop) → Passed text at end i → WalkedTo text false i end s → WalkedTo text false at end s
walked_on text at end i s p w =
    let f = p.forward in
    let g = w.forward in
    record { forward = omega (arith, f, g); inside = w.inside; same = λ k. p.same k ∙ w.same k }

pub turned_end : (text : List ℕ) (q : Mode) (at end : ℕ) (r : Reached) → Onward text q at end r → alive q ≡ true → r.at ≡ end → at < end → end ≤ length text → Turned text q at r
turned_end text q at end r o a e lt le = record {
  further = λ _. rw e lt;
  inside = rw e le;
  same = λ _. o.same;
  stuck = λ d. absurd (false≢true (sym d ∙ o.living ∙ a));
}

before_end : (at end : ℕ) → at ≤ end → (at ≡ end → ⊥) → at < end
before_end at end h n = omega (arith, h, n)

pub inside_text : (text : List ℕ) (q : Mode) (at end : ℕ) (r : Reached) → Onward text q at end r → (r.at ≡ end → ⊥) → end ≤ length text → r.at < length text
inside_text text q at end r o n le = let h = before_end r.at end o.inside n in omega (arith, h, le)

pub turned_on : (text : List ℕ) (q : Mode) (at end : ℕ) (r : Reached) (next : Mode) → Onward text q at end r → (r.at ≡ end → ⊥) → end ≤ length text
    → next ≡ next_mode_of r.mode (class_of (get_or text r.at 0)) → alive next ≡ true → Turned text q at (record { at = r.at + 1; mode = next })
turned_on text q at end r next o n le e a =
    let h = inside_text text q at end r o n le in
    let f = o.forward in
    record {
      further = λ _. omega (arith, f);
      inside = omega (arith, h);
      same = λ _. o.same ∙ look_on r.mode next text r.at h e a;
      stuck = λ d. absurd (true≢false (sym a ∙ d));
    }

pub turned_stuck : (text : List ℕ) (q : Mode) (at end : ℕ) (r : Reached) (next : Mode) → Onward text q at end r → (r.at ≡ end → ⊥) → end ≤ length text
    → next ≡ next_mode_of r.mode (class_of (get_or text r.at 0)) → alive next ≡ false → Turned text q at (record { at = r.at; mode = Bad })
turned_stuck text q at end r next o n le e a =
    let h = inside_text text q at end r o n le in
    record {
      further = λ d. absurd (false≢true d);
      inside = omega (arith, h);
      same = λ d. absurd (false≢true d);
      stuck = λ _. o.same ∙ look_dead r.mode next text r.at h e a;
    }

-- the loop: what is still to be looked at finds what the whole look finds
pub record Looking (text : List ℕ) (at : ℕ) (q : Mode) : Type 0 where
  pub inside : at ≤ length text
  pub living : alive q ≡ true
  pub same : look_from q (drop at text) at ≡ look text

pub begins : (text : List ℕ) → Looking text 0 Begin
unfolding look
begins text = record { inside = omega arith; living = refl; same = refl }

pub again : (text : List ℕ) (at : ℕ) (q : Mode) (r : Reached) → Looking text at q → Turned text q at r → alive r.mode ≡ true → Looking text r.at r.mode
again text at q r l t a = record { inside = t.inside; living = a; same = sym (t.same a) ∙ l.same }

pub found : (text : List ℕ) (at : ℕ) (q : Mode) (r : Reached) → Looking text at q → Turned text q at r → alive r.mode ≡ false → Err r.at ≡ look text
found text at q r l t a = sym (t.stuck a) ∙ l.same

pub ends : (text : List ℕ) (at : ℕ) (q : Mode) → Looking text at q → length text ≤ at → cond (accepting q) (Ok tt) (Err at) ≡ look text
ends text at q l h = sym (look_end q text at h) ∙ l.same

pub ends_well : (text : List ℕ) (at : ℕ) (q : Mode) → Looking text at q → length text ≤ at → accepting q ≡ true → (Ok tt) ≡ look text
ends_well text at q l h e = ap (λ (x : Bool). cond x (Ok tt) (Err at)) (sym e) ∙ ends text at q l h

pub ends_badly : (text : List ℕ) (at : ℕ) (q : Mode) → Looking text at q → length text ≤ at → accepting q ≡ false → Err at ≡ look text
ends_badly text at q l h e = ap (λ (x : Bool). cond x (Ok tt) (Err at)) (sym e) ∙ ends text at q l h
