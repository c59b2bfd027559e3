-- What code that walks through a text cites of the look. Assumes nothing.
use Rattle.std.specs.Prelude.{Ok, Err}
use mathlib.Core.Path.{◌≡◌, refl, sym, ap, ◌∙◌}
use mathlib.Core.Bool.{Bool, true, false, cond, not, ◌||◌, true≢false}
use mathlib.Core.List.{[], ◌∷◌}
use Prim.Native.Nat.{ℕ, zero, suc, ◌+◌, ◌≤◌, ◌<◌}
use native.Mathlib.Numerals.{add-one}
use lib.Dec.{eqb}
use lib.ListN.{length, drop, get_or, drop_of_length-le}
use lib.Seq.{drop-cons}
use borrow.Author.Tests.{eqb-true, eqb-false, ne_eqb}
use native.Mathlib.Nat.{suc-ne-zero}
use Rattle.layout.specs.declared.Class.{Class}
use Rattle.layout.specs.declared.Class.TheVariants.{Tab as tab, Feed as feed, Colon as colon, Slash as slash, Minus as minus, Point as point, Digit as digit, Other as other}
use Rattle.layout.specs.declared.Mode.{Mode}
use Rattle.layout.specs.declared.Mode.TheVariants.{Inside, Slashed, Digits}
use Rattle.layout.specs.Layout.{Bytes}
use Rattle.layout.specs.Scan.{class_of, ends_scale, next_mode_of, accepting, alive, look_from}
use Rattle.layout.proofs.Read.{View, view}

look_cons : (q : Mode) (b : ℕ) (t : Bytes) (i : ℕ) → alive (next_mode_of q (class_of b)) ≡ true → look_from q (b ∷ t) i ≡ look_from (next_mode_of q (class_of b)) t (i + 1)
unfolding look_from
look_cons q b t i e = rw e refl

look_stuck : (q : Mode) (b : ℕ) (t : Bytes) (i : ℕ) → alive (next_mode_of q (class_of b)) ≡ false → look_from q (b ∷ t) i ≡ Err i
unfolding look_from
look_stuck q b t i e = rw e refl

here : (text : Bytes) (i : ℕ) → i < length text → drop i text ≡ get_or text i 0 ∷ drop (i + 1) text
here text i h = drop-cons text i 0 h ∙ ap (λ (k : ℕ). get_or text i 0 ∷ drop k text) (sym (add-one i))

-- one byte more
pub look_on : (q r : Mode) (text : Bytes) (i : ℕ) → i < length text → r ≡ next_mode_of q (class_of (get_or text i 0)) → alive r ≡ true
    → look_from q (drop i text) i ≡ look_from r (drop (i + 1) text) (i + 1)
look_on q r text i h e a =
    ap (λ (t : Bytes). look_from q t i) (here text i h) ∙ look_cons q (get_or text i 0) (drop (i + 1) text) i (ap alive (sym e) ∙ a)
    ∙ ap (λ (m : Mode). look_from m (drop (i + 1) text) (i + 1)) (sym e)

pub look_dead : (q r : Mode) (text : Bytes) (i : ℕ) → i < length text → r ≡ next_mode_of q (class_of (get_or text i 0)) → alive r ≡ false
    → look_from q (drop i text) i ≡ Err i
look_dead q r text i h e a =
    ap (λ (t : Bytes). look_from q t i) (here text i h) ∙ look_stuck q (get_or text i 0) (drop (i + 1) text) i (ap alive (sym e) ∙ a)

pub look_end : (q : Mode) (text : Bytes) (i : ℕ) → length text ≤ i → look_from q (drop i text) i ≡ cond (accepting q) (Ok tt) (Err i)
look_end q text i h = ap (λ (t : Bytes). look_from q t i) (drop_of_length-le text {i = i} h) ∙ nil q i
  where
    nil : (q : Mode) (i : ℕ) → look_from q [] i ≡ cond (accepting q) (Ok tt) (Err i)
    nil q i = unfold look_from in refl

-- in a name
pub step_plain : (k : Bool) (b : ℕ) → (b ≡ 92 → ⊥) → (eqb b 9 || eqb b 10) || eqb b 58 ≡ false → Inside k ≡ next_mode_of (Inside k) (class_of b)
step_plain k b s e = go (class_of b) (view b)
  where
    first : (x y z : Bool) → (x || y) || z ≡ false → (x ≡ false) × (y ≡ false) × (z ≡ false)
    first false false false e = (refl, refl, refl)
    first true y z e = absurd (true≢false e)
    first false true z e = absurd (true≢false e)
    first false false true e = absurd (true≢false e)

    tests : (eqb b 9 ≡ false) × (eqb b 10 ≡ false) × (eqb b 58 ≡ false)
    tests = first (eqb b 9) (eqb b 10) (eqb b 58) e

    go : (c : Class) → View b c → Inside k ≡ next_mode_of (Inside k) c
    go tab v = absurd (eqb-false b 9 tests.0 v)
    go feed v = absurd (eqb-false b 10 tests.1 v)
    go colon v = absurd (eqb-false b 58 tests.2 v)
    go slash v = absurd (s v)
    go minus v = refl
    go point v = refl
    go digit v = refl
    go other v = refl

pub step_slash : (k : Bool) (b : ℕ) → b ≡ 92 → Slashed k ≡ next_mode_of (Inside k) (class_of b)
unfolding class_of
step_slash k b e = rw e refl

pub step_special : (k : Bool) (b : ℕ) → eqb b 58 || eqb b 92 ≡ true → Inside k ≡ next_mode_of (Slashed k) (class_of b)
step_special k b e = go (eqb b 58) refl
  where
    at58 : (b : ℕ) → b ≡ 58 → Inside k ≡ next_mode_of (Slashed k) (class_of b)
    at58 b h = unfold class_of in (rw h refl)

    at92 : (b : ℕ) → b ≡ 92 → Inside k ≡ next_mode_of (Slashed k) (class_of b)
    at92 b h = unfold class_of in (rw h refl)

    go : (x : Bool) → eqb b 58 ≡ x → Inside k ≡ next_mode_of (Slashed k) (class_of b)
    go true f = at58 b (eqb-true b 58 f)
    go false f = at92 b (eqb-true b 92 (rw f at e))
