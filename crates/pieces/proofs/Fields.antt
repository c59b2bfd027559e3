-- To the end of a field. Assumes nothing.
use mathlib.Core.Path.{◌≡◌, refl, sym, ap, ◌∙◌}
use mathlib.Core.Bool.{Bool, true, false, ◌||◌, true≢false, false≢true}
use mathlib.Core.List.{[], ◌∷◌, ◌++◌, cons≢nil}
use Prim.Native.Nat.{ℕ, ◌+◌, ◌≤◌, ◌<◌}
use native.Mathlib.Omega.{arith}
use lib.Dec.{eqb}
use lib.ListN.{length, drop, get_or, drop_of_length-le, length-append}
use lib.Seq.{slice}
use borrow.Author.Tests.{eqb-true}
use Rattle.layout.specs.Layout.{Bytes, Clean}
use Rattle.pieces.specs.Standing.{ends_field_of, field_ends, Fielded}
use Rattle.pieces.proofs.Parts.{here, slice_front, slice_length}
use Rattle.pieces.proofs.Names.{first, further}

record Fewer (f rest t : Bytes) : Type 0 where
  more : Bytes
  clean : Clean more
  bytes : t ≡ more ++ rest
  shorter : length f ≡ 1 + length more

fewer : (f rest : Bytes) (b : ℕ) (t : Bytes) → Clean f → field_ends rest ≡ true → b ∷ t ≡ f ++ rest → ends_field_of b ≡ false → Fewer f rest t
fewer [] [] b t g h e k = absurd (cons≢nil e)
fewer [] (c ∷ r) b t g h e k = absurd (true≢false (sym h ∙ ap ends_field_of (sym (first e)) ∙ k))
fewer (x ∷ f) rest b t g h e k = record { more = f; clean = g.2; bytes = further e; shorter = omega arith }

ends_here : (f rest : Bytes) (b : ℕ) (t : Bytes) → Clean f → b ∷ t ≡ f ++ rest → ends_field_of b ≡ true → length f ≡ 0
ends_here [] rest b t g e k = refl
ends_here (x ∷ f) rest b t g e k = absurd (split (eqb x 9) (eqb x 10) (λ y. g.0 (eqb-true x 9 y)) (λ y. g.1 (eqb-true x 10 y)) (ap ends_field_of (sym (first e)) ∙ k))
  where
    split : (p q : Bool) → (p ≡ true → ⊥) → (q ≡ true → ⊥) → p || q ≡ true → ⊥
    split true q h9 h10 z = h9 refl
    split false true h9 h10 z = h10 refl
    split false false h9 h10 z = false≢true z

nothing_left : (f rest : Bytes) → [] ≡ f ++ rest → length f ≡ 0
nothing_left f rest e = let l = ap length e ∙ length-append f rest in omega (arith, l)

-- ---- the loop

-- a field that ends at `to` goes on at i
pub record Going (text : Bytes) (i to : ℕ) : Type 0 where
  more : Bytes
  clean : Clean more
  bytes : drop i text ≡ more ++ drop to text
  ends : field_ends (drop to text) ≡ true
  same : i + length more ≡ to

abbrev pub Run : Bytes → ℕ → ℕ → Type 0
Run text at i = (to : ℕ) → Fielded text at to → Going text i to

pub run_starts : (text : Bytes) (at : ℕ) → Run text at at
run_starts text at to g =
    let l = slice_length text at to g.low g.inside in
    record { more = slice at to text; clean = g.clean; bytes = slice_front text at to g.low; ends = g.ends; same = omega (arith, l, g.low) }

pub run_on : (text : Bytes) (at i : ℕ) → Run text at i → i < length text → ends_field_of (get_or text i 0) ≡ false → Run text at (i + 1)
run_on text at i w h k to g =
    let a = w to g in
    let o = fewer a.more (drop to text) (get_or text i 0) (drop (i + 1) text) a.clean a.ends (sym (here text i h) ∙ a.bytes) k in
    record { more = o.more; clean = o.clean; bytes = o.bytes; ends = a.ends; same = omega (arith, a.same, o.shorter) }

pub run_ends : (text : Bytes) (at i : ℕ) → Run text at i → i < length text → ends_field_of (get_or text i 0) ≡ true → (to : ℕ) → Fielded text at to → i ≡ to
run_ends text at i w h k to g =
    let a = w to g in
    let z = ends_here a.more (drop to text) (get_or text i 0) (drop (i + 1) text) a.clean (sym (here text i h) ∙ a.bytes) k in
    omega (arith, a.same, z)

pub run_over : (text : Bytes) (at i : ℕ) → Run text at i → length text ≤ i → (to : ℕ) → Fielded text at to → i ≡ to
run_over text at i w h to g =
    let a = w to g in
    let z = nothing_left a.more (drop to text) (sym (drop_of_length-le text {i = i} h) ∙ a.bytes) in
    omega (arith, a.same, z)
