-- The laws of the loops: over a name's bytes, over slots, over labels. Assumes nothing.
use mathlib.Core.Path.{◌≡◌, refl, sym, ap, subst, ◌∙◌}
use mathlib.Core.Bool.{Bool, true, false, cond}
use mathlib.Core.List.{List, [], ◌∷◌, map}
use Prim.Native.Nat.{ℕ, zero, suc, ◌+◌, ◌-◌, ◌*◌, ◌/◌, ◌%◌, ◌≤◌, ◌<◌}
use native.Mathlib.Nat.{mod-lt, mod-eq_of_lt, mod-add-mod, add-zero}
use native.Mathlib.Numerals.{add-one}
use native.Mathlib.Omega.{arith}
use lib.Dec.{lit<}
use lib.ListN.{length, get_or, take, drop, length-map, drop_of_length-le}
use lib.Seq.{slice, length-take-le, get_or-take, drop-cons}
use borrow.Author.Tests.{ne_eqb}
use Rattle.layout.specs.Layout.{Bytes}
use Rattle.text_tables.specs.Distinct.{same, id_in}
use Rattle.pieces.specs.Standing.{ends_name_of, name_ends}
use Rattle.distinct.specs.Names.{ends_at, name_at, names_at, NameStands}
use Rattle.distinct.specs.Slots.{hashed, home, slot_at, ends_search, first_step, slot_for, Searchable}
use Rattle.distinct.proofs.First.{step_on, step_here, step_none}
use Rattle.distinct.proofs.Filing.{home_low, ends_free}
use Rattle.distinct.proofs.Raw.{stands_bytes}

-- ---- the number of a name, byte by byte
pub record Hashing (name : Bytes) (h i : ℕ) : Type 0 where
  pub small : h < 4294967296
  pub rest : hashed h (drop i name) ≡ hashed 0 name

hash_cons : (h b : ℕ) (rest : Bytes) → hashed h (b ∷ rest) ≡ hashed ((h * 16777619 + b) % 4294967296) rest
unfolding hashed
hash_cons h b rest = refl

pub hash_on : (name : Bytes) (h i r : ℕ) → Hashing name h i → i < length name → r ≡ (h * 16777619 + get_or name i 0) % 4294967296 → Hashing name r (i + 1)
hash_on name h i r g s e = record {
  small = subst (λ (x : ℕ). x < 4294967296) (sym e) (mod-lt (h * 16777619 + get_or name i 0) (lit< tt));
  rest =
      ap (λ (x : ℕ). hashed x (drop (i + 1) name)) e
      ∙ sym (hash_cons h (get_or name i 0) (drop (i + 1) name))
      ∙ ap (hashed h) (ap (λ (x : ℕ). get_or name i 0 ∷ drop x name) (add-one i) ∙ sym (drop-cons name i 0 s))
      ∙ g.rest;
}

pub hash_ends : (name : Bytes) (h i size : ℕ) → Hashing name h i → length name ≤ i → h * 2654435769 % 4294967296 * size / 4294967296 ≡ home size name
unfolding home hashed
hash_ends name h i size g s = ap (λ (x : ℕ). x * 2654435769 % 4294967296 * size / 4294967296) (sym (ap (hashed h) (drop_of_length-le name {i = i} s)) ∙ g.rest)

-- ---- where a name may end
pub ends_inside : (text : Bytes) (at : ℕ) → at < length text → ends_name_of (get_or text at 0) ≡ ends_at text at
unfolding ends_at
ends_inside text at h = ap name_ends (sym (drop-cons text at 0 h))

pub ends_behind : (text : Bytes) (at : ℕ) → length text ≤ at → true ≡ ends_at text at
unfolding ends_at
ends_behind text at h = ap name_ends (sym (drop_of_length-le text {i = at} h))

-- ---- the names at places
mapped : {A B : Type 0} (f : A → B) (xs : List A) (n : ℕ) (d : B) (e : A) → n < length xs → get_or (map f xs) n d ≡ f (get_or xs n e)
mapped f [] n d e h = absurd (omega (arith, h))
mapped f (x ∷ xs) zero d e h = refl
mapped f (x ∷ xs) (suc n) d e h = mapped f xs n d e (omega (arith, h))

pub name_is : (text : Bytes) (positions : List ℕ) (count v : ℕ) → count ≤ length positions → v < count → get_or (names_at text positions count) v [] ≡ name_at text (get_or positions v 0)
unfolding names_at
name_is text positions count v h l =
    mapped (name_at text) (take count positions) v [] 0 (let e = length-take-le count positions h in omega (arith, e, l))
    ∙ ap (name_at text) (get_or-take count positions v 0 l)

pub names_length : (text : Bytes) (positions : List ℕ) (count : ℕ) → count ≤ length positions → length (names_at text positions count) ≡ count
unfolding names_at
names_length text positions count h = length-map (take count positions) (name_at text) ∙ length-take-le count positions h

-- ---- the search
pub record Seeking (size : ℕ) (known : List Bytes) (slots : List ℕ) (name : Bytes) (i k : ℕ) : Type 0 where
  pub upto : k ≤ size
  pub at : i ≡ slot_at size name k
  pub rest : first_step (ends_search size known slots name) (size - k) k ≡ first_step (ends_search size known slots name) size 0

pub seek_begins : (text : Bytes) (size : ℕ) (known : List Bytes) (slots : List ℕ) (from to i : ℕ) → 0 < size → NameStands text from to → i ≡ home size (slice from to text) → Seeking size known slots (name_at text from) i 0
seek_begins text size known slots from to i some h e = record {
  upto = omega arith;
  at = e ∙ ap (home size) (stands_bytes text from to h) ∙ sym (ap (λ (x : ℕ). x % size) (add-zero (home size (name_at text from))) ∙ mod-eq_of_lt (home_low size (name_at text from) some));
  rest = ap (λ (x : ℕ). first_step (ends_search size known slots (name_at text from)) x 0) (omega arith);
}

module _ (size : ℕ) (known : List Bytes) (slots : List ℕ) (name : Bytes) (i k : ℕ) (g : Seeking size known slots name i k) where
  pub seek_inside : k < size → i < size
  seek_inside h = subst (λ (x : ℕ). x < size) (sym g.at) (mod-lt (home size name + k) (omega (arith, h)))

  pub seek_on : (j : ℕ) → k < size → j ≡ (i + 1) % size → ends_search size known slots name k ≡ false → Seeking size known slots name j (k + 1)
  seek_on j h e t = record {
    upto = omega (arith, h);
    at = e ∙ ap (λ (x : ℕ). (x + 1) % size) g.at ∙ mod-add-mod (home size name + k) size 1 ∙ ap (λ (x : ℕ). x % size) (omega arith);
    rest = sym (step_on (ends_search size known slots name) size k h t) ∙ g.rest;
  }

  pub seek_here : k < size → ends_search size known slots name k ≡ true → i ≡ slot_for size known slots name
  unfolding slot_for
  seek_here h t = g.at ∙ ap (slot_at size name) (sym (step_here (ends_search size known slots name) size k h t) ∙ g.rest)

  pub seek_ends : size ≤ k → i ≡ slot_for size known slots name
  unfolding slot_for
  seek_ends h = g.at ∙ ap (slot_at size name) (sym (step_none (ends_search size known slots name) size k h) ∙ g.rest)

  pub free_here : (v : ℕ) → v ≡ get_or slots i 0 → v ≡ 0 → ends_search size known slots name k ≡ true
  free_here v e z = ends_free size known slots name k (ap (λ (x : ℕ). get_or slots x 0) (sym g.at) ∙ sym e ∙ z)

-- a slot in use ends the search where its name is the name
pub slot_says : (text : Bytes) (slots positions : List ℕ) (count : ℕ) (name : Bytes) (size i k v p : ℕ) (r : Bool) → Seeking size (names_at text positions count) slots name i k → Searchable text slots positions count
    → v ≡ get_or slots i 0 → (v ≡ 0 → ⊥) → p ≡ get_or positions (v - 1) 0 → r ≡ same (name_at text p) name → ends_search size (names_at text positions count) slots name k ≡ r
unfolding ends_search
slot_says text slots positions count name size i k v p r g s e full q f =
    let here : get_or slots (slot_at size name k) 0 ≡ v = ap (λ (x : ℕ). get_or slots x 0) (sym g.at) ∙ sym e in
    let low = s.low i in
    rw (here, ne_eqb v 0 full)
    (ap (λ (x : Bytes). same x name) (name_is text positions count (v - 1) s.listed.room (omega (arith, low, e, full)) ∙ ap (name_at text) (sym q)) ∙ sym f)

-- ---- labels, one by one
pub record Comparing (known : List Bytes) (name : Bytes) (i : ℕ) : Type 0 where
  pub upto : i ≤ length known
  pub rest : i + id_in (drop i known) name ≡ id_in known name

id_cons : (m : Bytes) (known : List Bytes) (name : Bytes) → id_in (m ∷ known) name ≡ cond (same m name) 0 (suc (id_in known name))
unfolding id_in
id_cons m known name = refl

module _ (text : Bytes) (positions : List ℕ) (count : ℕ) (name : Bytes) (i p : ℕ) (r : Bool) (room : count ≤ length positions) (h : i < count) (g : Comparing (names_at text positions count) name i) (q : p ≡ get_or positions i 0) (f : r ≡ same (name_at text p) name) where
  one_label : id_in (drop i (names_at text positions count)) name ≡ cond r 0 (suc (id_in (drop (suc i) (names_at text positions count)) name))
  one_label =
      ap (λ (x : List Bytes). id_in x name) (drop-cons (names_at text positions count) i [] (let l = names_length text positions count room in omega (arith, h, l)))
      ∙ id_cons (get_or (names_at text positions count) i []) (drop (suc i) (names_at text positions count)) name
      ∙ ap (λ (x : Bool). cond x 0 (suc (id_in (drop (suc i) (names_at text positions count)) name)))
      (ap (λ (x : Bytes). same x name) (name_is text positions count i room h ∙ ap (name_at text) (sym q)) ∙ sym f)

  pub compare_here : r ≡ true → i ≡ id_in (names_at text positions count) name
  compare_here t =
      let e : id_in (drop i (names_at text positions count)) name ≡ 0 = one_label ∙ ap (λ (x : Bool). cond x 0 (suc (id_in (drop (suc i) (names_at text positions count)) name))) t in
      let s = g.rest in
      omega (arith, e, s)

  pub compare_on : r ≡ false → Comparing (names_at text positions count) name (i + 1)
  compare_on t =
      let e : id_in (drop i (names_at text positions count)) name ≡ suc (id_in (drop (suc i) (names_at text positions count)) name) = one_label ∙ ap (λ (x : Bool). cond x 0 (suc (id_in (drop (suc i) (names_at text positions count)) name))) t in
      let s = g.rest in
      let l = names_length text positions count room in
      record { upto = omega (arith, h, l); rest = ap (λ (x : ℕ). i + 1 + id_in (drop x (names_at text positions count)) name) (add-one i) ∙ omega (arith, e, s) }

pub compare_ends : (text : Bytes) (positions : List ℕ) (count : ℕ) (name : Bytes) (i : ℕ) → count ≤ length positions → Comparing (names_at text positions count) name i → count ≤ i → count ≡ id_in (names_at text positions count) name
unfolding id_in
compare_ends text positions count name i room g h =
    let l = names_length text positions count room in
    let u = g.upto in
    let s = g.rest in
    let e : id_in (drop i (names_at text positions count)) name ≡ 0 = ap (λ (x : List Bytes). id_in x name) (drop_of_length-le (names_at text positions count) {i = i} (omega (arith, l, h))) in
    omega (arith, l, u, s, e, h)
