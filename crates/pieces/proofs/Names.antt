-- To the end of a name: what one byte says of the name that goes on. Assumes nothing.
use mathlib.Core.Path.{◌≡◌, refl, sym, ap, ◌∙◌}
use mathlib.Core.Bool.{Bool, true, false, ◌||◌, true≢false, false≢true}
use mathlib.Core.List.{[], ◌∷◌, ◌++◌, cons≢nil}
use Prim.Native.Nat.{ℕ, ◌+◌, ◌≤◌, ◌<◌}
use native.Mathlib.Omega.{arith}
use lib.Dec.{eqb}
use lib.ListN.{length, drop, get_or, drop_of_length-le, length-drop, length-append}
use borrow.Author.Tests.{eqb-true}
use Rattle.layout.specs.Layout.{Bytes, escaped, Clean}
use Rattle.pieces.specs.Standing.{ends_name_of, name_ends, Named, SomeName}
use Rattle.pieces.proofs.Parts.{here, slice_front, slice_length}

pub escaped_special : (b : ℕ) (n : Bytes) → eqb b 58 || eqb b 92 ≡ true → escaped (b ∷ n) ≡ 92 ∷ b ∷ escaped n
unfolding escaped
escaped_special b n h = rw h refl

pub escaped_plain : (b : ℕ) (n : Bytes) → eqb b 58 || eqb b 92 ≡ false → escaped (b ∷ n) ≡ b ∷ escaped n
unfolding escaped
escaped_plain b n h = rw h refl

pub escaped_nil : escaped [] ≡ []
unfolding escaped
escaped_nil = refl

-- ---- a name and its rest, by the first byte of both

pub first : {b c : ℕ} {t u : Bytes} → b ∷ t ≡ c ∷ u → b ≡ c
first e = cc

pub further : {b c : ℕ} {t u : Bytes} → b ∷ t ≡ c ∷ u → t ≡ u
further e = cc

-- either way of a test
pub either : {P : Type 0} (x : Bool) → (x ≡ true → P) → (x ≡ false → P) → P
either true f g = f refl
either false f g = g refl

no_ending : (b c : ℕ) → ends_name_of c ≡ true → ends_name_of b ≡ false → b ≡ c → ⊥
no_ending b c h k e = true≢false (sym h ∙ ap ends_name_of (sym e) ∙ k)

record Onward (n rest t : Bytes) (by : ℕ) : Type 0 where
  more : Bytes
  clean : Clean more
  bytes : t ≡ escaped more ++ rest
  shorter : length (escaped n) ≡ by + length (escaped more)

onward_plain : (n rest : Bytes) (b : ℕ) (t : Bytes) → Clean n → name_ends rest ≡ true → b ∷ t ≡ escaped n ++ rest → (b ≡ 92 → ⊥) → ends_name_of b ≡ false → Onward n rest t 1
onward_plain [] [] b t g h e s k = absurd (cons≢nil (e ∙ ap (λ (x : Bytes). x ++ []) escaped_nil))
onward_plain [] (c ∷ r) b t g h e s k = absurd (no_ending b c h k (first (e ∙ ap (λ (x : Bytes). x ++ (c ∷ r)) escaped_nil)))
onward_plain (x ∷ n) rest b t g h e s k =
    either (eqb x 58 || eqb x 92)
    (λ y. absurd (s (first (e ∙ ap (λ (z : Bytes). z ++ rest) (escaped_special x n y)))))
    (λ y. record {
      more = n;
      clean = g.2;
      bytes = further (e ∙ ap (λ (z : Bytes). z ++ rest) (escaped_plain x n y));
      shorter = ap length (escaped_plain x n y) ∙ omega arith;
    })

onward_slash : (n rest : Bytes) (b c : ℕ) (t : Bytes) → Clean n → name_ends rest ≡ true → b ∷ c ∷ t ≡ escaped n ++ rest → b ≡ 92 → Onward n rest t 2
onward_slash [] [] b c t g h e s = absurd (cons≢nil (e ∙ ap (λ (x : Bytes). x ++ []) escaped_nil))
onward_slash [] (d ∷ r) b c t g h e s = absurd (false≢true (ap ends_name_of (sym s ∙ first (e ∙ ap (λ (x : Bytes). x ++ (d ∷ r)) escaped_nil)) ∙ h))
onward_slash (x ∷ n) rest b c t g h e s =
    either (eqb x 58 || eqb x 92)
    (λ y. record {
      more = n;
      clean = g.2;
      bytes = further (further (e ∙ ap (λ (z : Bytes). z ++ rest) (escaped_special x n y)));
      shorter = ap length (escaped_special x n y) ∙ omega arith;
    })
    (λ y. absurd (true≢false (ap (λ (z : ℕ). eqb z 58 || eqb z 92) (sym s ∙ first (e ∙ ap (λ (z : Bytes). z ++ rest) (escaped_plain x n y))) ∙ y)))

-- behind a backslash there is a byte
slash_pair : (n rest : Bytes) (b : ℕ) (t : Bytes) → name_ends rest ≡ true → b ∷ t ≡ escaped n ++ rest → b ≡ 92 → 1 ≤ length t
slash_pair [] [] b t h e s = absurd (cons≢nil (e ∙ ap (λ (x : Bytes). x ++ []) escaped_nil))
slash_pair [] (d ∷ r) b t h e s = absurd (false≢true (ap ends_name_of (sym s ∙ first (e ∙ ap (λ (x : Bytes). x ++ (d ∷ r)) escaped_nil)) ∙ h))
slash_pair (x ∷ n) rest b t h e s =
    either (eqb x 58 || eqb x 92)
    (λ y. let l = ap length (further (e ∙ ap (λ (z : Bytes). z ++ rest) (escaped_special x n y))) in omega (arith, l))
    (λ y. absurd (true≢false (ap (λ (z : ℕ). eqb z 58 || eqb z 92) (sym s ∙ first (e ∙ ap (λ (z : Bytes). z ++ rest) (escaped_plain x n y))) ∙ y)))

ends_here : (n rest : Bytes) (b : ℕ) (t : Bytes) → Clean n → b ∷ t ≡ escaped n ++ rest → ends_name_of b ≡ true → length (escaped n) ≡ 0
ends_here [] rest b t g e k = ap length escaped_nil
ends_here (x ∷ n) rest b t g e k =
    either (eqb x 58 || eqb x 92)
    (λ y. absurd (false≢true (ap ends_name_of (sym (first (e ∙ ap (λ (z : Bytes). z ++ rest) (escaped_special x n y)))) ∙ k)))
    (λ y. absurd (plain x g.0 g.1 y (ap ends_name_of (sym (first (e ∙ ap (λ (z : Bytes). z ++ rest) (escaped_plain x n y)))) ∙ k)))
  where
    split : (p q r s : Bool) → (p ≡ true → ⊥) → (q ≡ true → ⊥) → r || s ≡ false → (p || q) || r ≡ true → ⊥
    split true q r s h9 h10 y z = h9 refl
    split false true r s h9 h10 y z = h10 refl
    split false false true s h9 h10 y z = true≢false y
    split false false false s h9 h10 y z = false≢true z

    plain : (x : ℕ) → (x ≡ 9 → ⊥) → (x ≡ 10 → ⊥) → eqb x 58 || eqb x 92 ≡ false → ends_name_of x ≡ true → ⊥
    plain x h9 h10 y z = split (eqb x 9) (eqb x 10) (eqb x 58) (eqb x 92) (λ e. h9 (eqb-true x 9 e)) (λ e. h10 (eqb-true x 10 e)) y z

nothing_left : (n rest : Bytes) → [] ≡ escaped n ++ rest → length (escaped n) ≡ 0
nothing_left n rest e = let l = ap length e ∙ length-append (escaped n) rest in omega (arith, l)

pub escaped_some : (b : ℕ) (n : Bytes) → 1 ≤ length (escaped (b ∷ n))
escaped_some b n =
    either (eqb b 58 || eqb b 92)
    (λ y. omega (arith, ap length (escaped_special b n y)))
    (λ y. omega (arith, ap length (escaped_plain b n y)))

-- ---- the loop

-- a name goes on at i, and this is left of the text behind it
record NameLeft (text : Bytes) (i : ℕ) (name rest : Bytes) : Type 0 where
  clean : Clean name
  bytes : drop i text ≡ escaped name ++ rest
  ends : name_ends rest ≡ true

-- a name that began at `at` and ends at `to` goes on at i
pub record Going (text : Bytes) (i to : ℕ) : Type 0 where
  more : Bytes
  left : NameLeft text i more (drop to text)
  same : i + length (escaped more) ≡ to

abbrev pub Walked : Bytes → ℕ → ℕ → Type 0
Walked text at i = (to : ℕ) (name : Bytes) → Named text at to name → Going text i to

pub walk_starts : (text : Bytes) (at : ℕ) → Walked text at at
walk_starts text at to name g =
    let l = slice_length text at to g.low g.inside ∙ ap length g.bytes in
    record {
      more = name;
      left = record { clean = g.clean; bytes = slice_front text at to g.low ∙ ap (λ (t : Bytes). t ++ drop to text) g.bytes; ends = g.ends };
      same = omega (arith, l, g.low);
    }

pub walk_plain : (text : Bytes) (at i : ℕ) → Walked text at i → i < length text → (get_or text i 0 ≡ 92 → ⊥) → ends_name_of (get_or text i 0) ≡ false → Walked text at (i + 1)
walk_plain text at i w h s k to name g =
    let a = w to name g in
    let m = a.left in
    let o = onward_plain a.more (drop to text) (get_or text i 0) (drop (i + 1) text) m.clean m.ends (sym (here text i h) ∙ m.bytes) s k in
    record {
      more = o.more;
      left = record { clean = o.clean; bytes = o.bytes; ends = m.ends };
      same = omega (arith, a.same, o.shorter);
    }

-- where the byte behind a backslash stands
pub walk_room : (text : Bytes) (at i : ℕ) → Walked text at i → SomeName text at → i < length text → get_or text i 0 ≡ 92 → i + 2 ≤ length text
walk_room text at i w g h s =
    let a = w g.0 g.1 g.2 in
    let m = a.left in
    let l = slash_pair a.more (drop g.0 text) (get_or text i 0) (drop (i + 1) text) m.ends (sym (here text i h) ∙ m.bytes) s in
    let d = length-drop (i + 1) text in
    omega (arith, l, d)

pub walk_slash : (text : Bytes) (at i : ℕ) → Walked text at i → i < length text → get_or text i 0 ≡ 92 → Walked text at (i + 2)
walk_slash text at i w h s to name g =
    let a = w to name g in
    let m = a.left in
    let room : i + 2 ≤ length text = walk_room text at i w (to, name, g) h s in
    let two : i + 1 + 1 ≡ i + 2 = omega arith in
    let e = sym (here text i h ∙ ap (λ (t : Bytes). get_or text i 0 ∷ t) (here text (i + 1) (omega (arith, room)))) ∙ m.bytes in
    let o = onward_slash a.more (drop to text) (get_or text i 0) (get_or text (i + 1) 0) (drop (i + 1 + 1) text) m.clean m.ends e s in
    record {
      more = o.more;
      left = record { clean = o.clean; bytes = ap (λ (k : ℕ). drop k text) (sym two) ∙ o.bytes; ends = m.ends };
      same = omega (arith, a.same, o.shorter);
    }

pub walk_ends : (text : Bytes) (at i : ℕ) → Walked text at i → i < length text → ends_name_of (get_or text i 0) ≡ true → (to : ℕ) (name : Bytes) → Named text at to name → i ≡ to
walk_ends text at i w h k to name g =
    let a = w to name g in
    let m = a.left in
    let z = ends_here a.more (drop to text) (get_or text i 0) (drop (i + 1) text) m.clean (sym (here text i h) ∙ m.bytes) k in
    omega (arith, a.same, z)

pub walk_over : (text : Bytes) (at i : ℕ) → Walked text at i → length text ≤ i → (to : ℕ) (name : Bytes) → Named text at to name → i ≡ to
walk_over text at i w h to name g =
    let a = w to name g in
    let z = nothing_left a.more (drop to text) (sym (drop_of_length-le text {i = i} h) ∙ a.left.bytes) in
    omega (arith, a.same, z)
