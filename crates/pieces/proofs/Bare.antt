-- Names without their backslashes: byte by byte, and back from the escaped name. Assumes nothing.
use mathlib.Core.Path.{◌≡◌, refl, sym, ap, ◌∙◌}
use mathlib.Core.Bool.{Bool, true, false, ◌&&◌, ◌||◌, true≢false}
use mathlib.Core.List.{[], ◌∷◌}
use Prim.Native.Nat.{ℕ, ◌+◌, ◌≤◌, ◌<◌}
use native.Mathlib.Omega.{arith}
use lib.Dec.{eqb}
use lib.ListN.{length, get_or, set, drop, drop_of_length-le, length-set}
use lib.Seq.{slice}
use Rattle.layout.specs.Layout.{Bytes, escaped}
use Rattle.byte_buffers.specs.Stored.{stored, RoomFor, Put}
use Rattle.pieces.specs.Standing.{Named}
use Rattle.pieces.specs.Unescaped.{is_skipped, unescaped_from, unescaped, UnescapesBack}
use Rattle.pieces.proofs.Names.{escaped_special, escaped_plain, either}
use Rattle.pieces.proofs.Parts.{here}

-- ---- one byte

bare_nil : (x : Bool) → unescaped_from x [] ≡ []
bare_nil x = unfold unescaped_from in refl

bare_skip : (x : Bool) (b : ℕ) (t : Bytes) → is_skipped x b ≡ true → unescaped_from x (b ∷ t) ≡ unescaped_from true t
bare_skip x b t h = unfold unescaped_from in (rw h refl)

bare_keep : (x : Bool) (b : ℕ) (t : Bytes) → is_skipped x b ≡ false → unescaped_from x (b ∷ t) ≡ b ∷ unescaped_from false t
bare_keep x b t h = unfold unescaped_from in (rw h refl)

pub unescapes_back : UnescapesBack
unescapes_back [] = nil
  where
    nil : unescaped (escaped []) ≡ []
    nil = unfold unescaped_from escaped in refl
unescapes_back (b ∷ n) =
    either (eqb b 58 || eqb b 92)
    (λ y.
    ap unescaped (escaped_special b n y) ∙ bare_skip false 92 (b ∷ escaped n) refl ∙ bare_keep true b (escaped n) (behind (eqb b 92)) ∙ ap (λ (t : Bytes). b ∷ t) (unescapes_back n))
    (λ y.
    ap unescaped (escaped_plain b n y) ∙ bare_keep false b (escaped n) (plain (eqb b 58) (eqb b 92) y) ∙ ap (λ (t : Bytes). b ∷ t) (unescapes_back n))
  where
    behind : (x : Bool) → x && false ≡ false
    behind true = refl
    behind false = refl

    plain : (x y : Bool) → x || y ≡ false → y && true ≡ false
    plain true y h = absurd (true≢false h)
    plain false true h = absurd (true≢false h)
    plain false false h = refl

-- the bytes of a name that stands
pub bare_name : {text : Bytes} {from to : ℕ} {name : Bytes} → Named text from to name → unescaped (slice from to text) ≡ name
bare_name {text} {from} {to} {name} g = ap unescaped g.bytes ∙ unescapes_back name

-- ---- the loops

-- what is left
abbrev pub rest : Bytes → Bool → ℕ → Bytes
rest name x i = unescaped_from x (drop i name)

rest_skip : (name : Bytes) (x : Bool) (i : ℕ) → i < length name → is_skipped x (get_or name i 0) ≡ true → rest name x i ≡ rest name true (i + 1)
rest_skip name x i h f = ap (unescaped_from x) (here name i h) ∙ bare_skip x (get_or name i 0) (drop (i + 1) name) f

rest_keep : (name : Bytes) (x : Bool) (i : ℕ) → i < length name → is_skipped x (get_or name i 0) ≡ false → rest name x i ≡ get_or name i 0 ∷ rest name false (i + 1)
rest_keep name x i h f = ap (unescaped_from x) (here name i h) ∙ bare_keep x (get_or name i 0) (drop (i + 1) name) f

rest_none : (name : Bytes) (x : Bool) (i : ℕ) → length name ≤ i → rest name x i ≡ []
rest_none name x i h = ap (unescaped_from x) (drop_of_length-le name {i = i} h) ∙ bare_nil x

-- so many bytes so far, and what is left makes so many in all
pub record Counting (name : Bytes) (i count : ℕ) (x : Bool) : Type 0 where
  pub few : count ≤ i
  pub same : count + length (rest name x i) ≡ length (unescaped name)

pub counting_skip : {name : Bytes} {i count : ℕ} {x y : Bool} → Counting name i count x → i < length name → y ≡ is_skipped x (get_or name i 0) → y ≡ true → Counting name (i + 1) count y
counting_skip {name} {i} {count} {x} g h e f = record {
  few = omega (arith, g.few);
  same = rw f (ap (λ (t : Bytes). count + length t) (sym (rest_skip name x i h (sym e ∙ f))) ∙ g.same);
}

pub counting_keep : {name : Bytes} {i count : ℕ} {x y : Bool} → Counting name i count x → i < length name → y ≡ is_skipped x (get_or name i 0) → y ≡ false → Counting name (i + 1) (count + 1) y
counting_keep {name} {i} {count} {x} g h e f =
    let l = ap length (rest_keep name x i h (sym e ∙ f)) in
    record { few = omega (arith, g.few); same = rw f (omega (arith, l, g.same)) }

pub counting_over : {name : Bytes} {i count : ℕ} {x : Bool} → Counting name i count x → length name ≤ i → count ≡ length (unescaped name)
counting_over {name} {i} {count} {x} g h = let l = ap length (rest_none name x i h) in omega (arith, l, g.same)

-- a name has at most as many bytes as stand for it
pub bare_shorter : (x : Bool) (t : Bytes) → length (unescaped_from x t) ≤ length t
bare_shorter x [] = omega (arith, ap length (bare_nil x))
bare_shorter x (b ∷ t) =
    either (is_skipped x b)
    (λ f. omega (arith, ap length (bare_skip x b t f), bare_shorter true t))
    (λ f. omega (arith, ap length (bare_keep x b t f), bare_shorter false t))

-- so many were written, and to write what is left gives the same as to write all from the start
pub record Writing (name : Bytes) (i : ℕ) (x : Bool) (k at : ℕ) (out before : Bytes) : Type 0 where
  pub long : length out ≡ length before
  pub room : at + length (unescaped name) ≤ length before
  pub place : k + length (rest name x i) ≡ at + length (unescaped name)
  pub same : stored out k (rest name x i) ≡ stored before at (unescaped name)

pub writing_skip : {name : Bytes} {i : ℕ} {x y : Bool} {k at : ℕ} {out before : Bytes} → Writing name i x k at out before → i < length name → y ≡ is_skipped x (get_or name i 0) → y ≡ true
    → Writing name (i + 1) y k at out before
writing_skip {name} {i} {x} {y} {k} {at} {out} g h s f =
    let e = ap (λ (z : Bool). rest name z (i + 1)) f ∙ sym (rest_skip name x i h (sym s ∙ f)) in
    record {
      long = g.long;
      room = g.room;
      place = ap (λ (t : Bytes). k + length t) e ∙ g.place;
      same = ap (stored out k) e ∙ g.same;
    }

-- where a byte is left to write there is room for it
pub writing_room : {name : Bytes} {i : ℕ} {x y : Bool} {k at : ℕ} {out before : Bytes} → Writing name i x k at out before → i < length name → y ≡ is_skipped x (get_or name i 0) → y ≡ false
    → k < length out
writing_room {name} {i} {x} g h e f = let l = ap length (rest_keep name x i h (sym e ∙ f)) in omega (arith, l, g.place, g.room, g.long)

pub writing_keep : {name : Bytes} {i : ℕ} {x y : Bool} {k at : ℕ} {out before : Bytes} → Writing name i x k at out before → i < length name → y ≡ is_skipped x (get_or name i 0) → y ≡ false
    → Writing name (i + 1) y (k + 1) at (set out k (get_or name i 0)) before
writing_keep {name} {i} {x} {y} {k} {at} {out} g h s f =
    let e = rest_keep name x i h (sym s ∙ f) ∙ ap (λ (z : Bool). get_or name i 0 ∷ rest name z (i + 1)) (sym f) in
    record {
      long = length-set out k (get_or name i 0) ∙ g.long;
      room = g.room;
      place = omega (arith, ap length e, g.place);
      same = one out k (get_or name i 0) (rest name y (i + 1)) ∙ ap (stored out k) (sym e) ∙ g.same;
    }
  where
    one : (out : Bytes) (k b : ℕ) (t : Bytes) → stored (set out k b) (k + 1) t ≡ stored out k (b ∷ t)
    one out k b t = unfold stored in refl

pub writing_over : {name : Bytes} {i : ℕ} {x : Bool} {k at : ℕ} {out before : Bytes} → Writing name i x k at out before → length name ≤ i → Put (unescaped name) before at k out
writing_over {name} {i} {x} {k} {at} {out} g h =
    let e = rest_none name x i h in
    record { next = omega (arith, ap length e, g.place); line = nothing out k ∙ ap (stored out k) (sym e) ∙ g.same }
  where
    nothing : (out : Bytes) (k : ℕ) → out ≡ stored out k []
    nothing out k = unfold stored in refl
