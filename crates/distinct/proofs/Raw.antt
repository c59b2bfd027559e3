-- The name that a text begins with: a front of the text, behind which a name may end; and `escaped` makes it. Assumes nothing.
use mathlib.Core.Path.{◌≡◌, refl, sym, ap, ◌∙◌}
use mathlib.Core.Bool.{Bool, true, false, cond, ◌||◌, true≢false}
use mathlib.Core.List.{[], ◌∷◌, ◌++◌}
use Prim.Native.Nat.{ℕ, ◌+◌, ◌-◌, ◌≤◌, ◌<◌}
use native.Mathlib.Omega.{arith}
use lib.Dec.{eqb}
use lib.ListN.{length, get_or, take, drop, length-append, length-drop, take-append-drop, get_or-append}
use lib.Seq.{slice, length-slice, length-take-le, drop-append-le, get_or-drop, get_or-take, drop-drop, ext_get_or}
use borrow.Author.Tests.{ne_eqb}
use Rattle.layout.specs.Layout.{Bytes, escaped, Clean}
use Rattle.text_tables.specs.Distinct.{same}
use Rattle.pieces.specs.Standing.{ends_name_of, name_ends, Named}
use Rattle.distinct.specs.Names.{ends_at, raw_from, raw_name, name_at, NameStands}
use Rattle.distinct.proofs.Same.{eq_same, ne_same}

raw_front : (behind : Bool) (t : Bytes) → raw_from behind t ++ drop (length (raw_from behind t)) t ≡ t
unfolding raw_from
raw_front behind [] = refl
raw_front true (b ∷ t) = ap (λ (x : Bytes). b ∷ x) (raw_front false t)
raw_front false (b ∷ t) = go (ends_name_of b) (raw_front (eqb b 92) t)
  where
    go : (x : Bool) → raw_from (eqb b 92) t ++ drop (length (raw_from (eqb b 92) t)) t ≡ t → cond x [] (b ∷ raw_from (eqb b 92) t) ++ drop (length (cond x [] (b ∷ raw_from (eqb b 92) t))) (b ∷ t) ≡ b ∷ t
    go true rest = refl
    go false rest = ap (λ (x : Bytes). b ∷ x) rest

raw_ends : (behind : Bool) (t : Bytes) → name_ends (drop (length (raw_from behind t)) t) ≡ true
unfolding raw_from
raw_ends behind [] = refl
raw_ends true (b ∷ t) = raw_ends false t
raw_ends false (b ∷ t) = go (ends_name_of b) refl (raw_ends (eqb b 92) t)
  where
    go : (x : Bool) → ends_name_of b ≡ x → name_ends (drop (length (raw_from (eqb b 92) t)) t) ≡ true → name_ends (drop (length (cond x [] (b ∷ raw_from (eqb b 92) t))) (b ∷ t)) ≡ true
    go true e rest = e
    go false e rest = rest

raw_nothing : (rest : Bytes) → name_ends rest ≡ true → raw_name rest ≡ []
unfolding raw_from
raw_nothing [] e = refl
raw_nothing (b ∷ rest) e = rw e refl

either : (x y : Bool) → x || y ≡ false → (x ≡ false) × (y ≡ false)
either true y e = absurd (true≢false e)
either false y e = (refl, e)

-- what `escaped` made is read back whole
pub raw_escaped : (n rest : Bytes) → Clean n → name_ends rest ≡ true → raw_name (escaped n ++ rest) ≡ escaped n
unfolding escaped raw_from
raw_escaped [] rest c e = raw_nothing rest e
raw_escaped (b ∷ n) rest c e = go (eqb b 58 || eqb b 92) refl (raw_escaped n rest c.2 e)
  where
    go : (x : Bool) → eqb b 58 || eqb b 92 ≡ x → raw_name (escaped n ++ rest) ≡ escaped n → raw_name (cond x (92 ∷ b ∷ escaped n) (b ∷ escaped n) ++ rest) ≡ cond x (92 ∷ b ∷ escaped n) (b ∷ escaped n)
    go true f again = ap (λ (x : Bytes). 92 ∷ b ∷ x) again
    go false f again =
        let p = either (eqb b 58) (eqb b 92) f in
        rw (ne_eqb b 9 c.0, ne_eqb b 10 c.1, p.0, p.1) (ap (λ (x : Bytes). b ∷ x) again)

-- ---- the name at a place is what the text holds there, up to where a name may end
pub name_parts : (text : Bytes) (p : ℕ) → drop p text ≡ name_at text p ++ drop (p + length (name_at text p)) text
unfolding name_at
name_parts text p = sym (raw_front false (drop p text)) ∙ ap (λ (x : Bytes). name_at text p ++ x) (drop-drop (length (name_at text p)) p text)

name_long : (text : Bytes) (p : ℕ) → length (name_at text p) ≤ length text - p
unfolding name_at
name_long text p =
    let a = length-append (name_at text p) (drop (length (name_at text p)) (drop p text)) in
    let b = ap length (raw_front false (drop p text)) in
    let d = length-drop p text in
    omega (arith, a, b, d)

name_byte : (text : Bytes) (p k : ℕ) → k < length (name_at text p) → get_or (name_at text p) k 0 ≡ get_or text (p + k) 0
unfolding name_at
name_byte text p k h =
    sym (get_or-append (name_at text p) (drop (length (name_at text p)) (drop p text)) 0 k h)
    ∙ ap (λ (x : Bytes). get_or x k 0) (raw_front false (drop p text))
    ∙ get_or-drop p text k 0

pub name_ends_lem : (text : Bytes) (p : ℕ) → ends_at text (p + length (name_at text p)) ≡ true
unfolding ends_at name_at
name_ends_lem text p = ap name_ends (sym (drop-drop (length (name_at text p)) p text)) ∙ raw_ends false (drop p text)

-- a part, and what lies behind it
parted : (text : Bytes) (f t : ℕ) → f ≤ t → t ≤ length text → drop f text ≡ slice f t text ++ drop t text
parted text f t a b =
    ap (drop f) (sym (take-append-drop t text))
    ∙ drop-append-le f (take t text) (drop t text) (let l = length-take-le t text b in omega (arith, l, a))

pub named_is : (text : Bytes) (from to : ℕ) (name : Bytes) → Named text from to name → name_at text from ≡ escaped name
unfolding name_at
named_is text from to name h =
    ap raw_name (parted text from to h.low h.inside ∙ ap (λ (x : Bytes). x ++ drop to text) h.bytes)
    ∙ raw_escaped name (drop to text) h.clean h.ends

pub stands_bytes : (text : Bytes) (from to : ℕ) → NameStands text from to → slice from to text ≡ name_at text from
stands_bytes text from to h = h.1.bytes ∙ sym (named_is text from to h.0 h.1)

stands_length : (text : Bytes) (from to : ℕ) → NameStands text from to → length (name_at text from) ≡ to - from
stands_length text from to h = ap length (sym (stands_bytes text from to h)) ∙ length-slice from to text h.1.inside

slice_byte : (text : Bytes) (f n j : ℕ) → j < n → get_or (slice f (f + n) text) j 0 ≡ get_or text (f + j) 0
slice_byte text f n j h = get_or-drop f (take (f + n) text) j 0 ∙ get_or-take (f + n) text (f + j) 0 (omega (arith, h))

-- ---- the comparison of two names, byte by byte
pub record Alike (text : Bytes) (p from n k : ℕ) : Type 0 where
  pub upto : k ≤ n
  pub bytes : (j : ℕ) → j < k → get_or text (p + j) 0 ≡ get_or text (from + j) 0

module _ (text : Bytes) (p from to n : ℕ) (h : NameStands text from to) (e : n ≡ to - from) where
  pub too_short : length text - p < n → same (name_at text p) (name_at text from) ≡ false
  too_short s = ne_same (name_at text p) (name_at text from) λ q.
      let a = name_long text p in
      let b = ap length q in
      let l = stands_length text from to h in
      absurd (omega (arith, a, b, l, e, s))

  pub differs : (k : ℕ) → k < n → (get_or text (p + k) 0 ≡ get_or text (from + k) 0 → ⊥) → same (name_at text p) (name_at text from) ≡ false
  differs k s d = ne_same (name_at text p) (name_at text from) λ q.
      let b = ap length q in
      let l = stands_length text from to h in
      d (sym (name_byte text p k (omega (arith, b, l, e, s))) ∙ ap (λ (x : Bytes). get_or x k 0) q ∙ name_byte text from k (omega (arith, l, e, s)))

  pub alike_ends : (r : Bool) (k : ℕ) → n ≤ length text - p → p ≤ length text → Alike text p from n k → n ≤ k → (q : ℕ) → q ≡ p + n → r ≡ ends_at text q → r ≡ same (name_at text p) (name_at text from)
  unfolding ends_at name_at
  alike_ends r k s i w d q m o = go (name_ends (drop (p + n) text)) refl
    where
      f : r ≡ name_ends (drop (p + n) text)
      f = o ∙ ap (ends_at text) m

      to_is : from + n ≡ to
      to_is = let l = h.1.low in omega (arith, e, l)

      whole : slice p (p + n) text ≡ escaped h.0
      whole =
          ext_get_or 0 (slice p (p + n) text) (slice from (from + n) text)
          (length-slice p (p + n) text (omega (arith, s, i)) ∙ (omega arith) ∙ sym (length-slice from (from + n) text (rw to_is h.1.inside)))
          (λ j l. each j (let a = length-slice p (p + n) text (omega (arith, s, i)) in omega (arith, l, a)))
          ∙ ap (λ (x : ℕ). slice from x text) to_is
          ∙ h.1.bytes
        where
          each : (j : ℕ) → j < n → get_or (slice p (p + n) text) j 0 ≡ get_or (slice from (from + n) text) j 0
          each j l = slice_byte text p n j l ∙ w.bytes j (omega (arith, l, d)) ∙ sym (slice_byte text from n j l)

      go : (x : Bool) → name_ends (drop (p + n) text) ≡ x → r ≡ same (name_at text p) (name_at text from)
      go true g =
          f ∙ g
          ∙ sym (eq_same (name_at text p) (name_at text from)
          (ap raw_name (parted text p (p + n) (omega arith) (omega (arith, s, i)) ∙ ap (λ (x : Bytes). x ++ drop (p + n) text) whole)
          ∙ raw_escaped h.0 (drop (p + n) text) h.1.clean g
          ∙ sym (named_is text from to h.0 h.1)))
      go false g = f ∙ g ∙ sym (ne_same (name_at text p) (name_at text from) λ q. true≢false (sym (name_ends_lem text p) ∙ ap (λ (x : ℕ). name_ends (drop (p + x) text)) (ap length q ∙ stands_length text from to h ∙ sym e) ∙ g))
