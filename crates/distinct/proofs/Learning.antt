-- One name more: what is known and filed after it. Assumes nothing.
use mathlib.Core.Path.{◌≡◌, refl, sym, ap, subst, ◌∙◌}
use mathlib.Core.Bool.{Bool, true, false}
use mathlib.Core.List.{List, [], ◌∷◌, ◌++◌, map}
use Prim.Native.Nat.{ℕ, zero, suc, ◌+◌, ◌-◌, ◌≤◌, ◌<◌}
use native.Mathlib.Nat.{le_refl, suc-ne-zero}
use native.Mathlib.Numerals.{add-one}
use native.Mathlib.Omega.{arith}
use lib.Dec.{eqb}
use lib.ListN.{length, get_or, set, take, replicate, length-set}
use lib.Seq.{take-suc-set, get_or-set_same, get_or-set_other}
use borrow.Author.Tests.{eqb-true, eqb-false}
use Rattle.layout.specs.Layout.{Bytes}
use Rattle.text_tables.specs.Distinct.{id_in, learnt}
use Rattle.distinct.specs.Names.{name_at, names_at, Known, LearntLabel}
use Rattle.distinct.specs.Slots.{slot_for, used, Filed, Searchable, Tabled, LearntName}
use Rattle.distinct.proofs.Same.{id_meant, longer, learnt_new, learnt_old}
use Rattle.distinct.proofs.Filing.{slot_low, SearchEnd, search_end, filed_more}
use Rattle.distinct.proofs.Loops.{names_length}

-- ---- at the start
pub none_known : (text : Bytes) (positions : List ℕ) → Known text positions 0 []
unfolding names_at
none_known text positions = record { listed = record { room = omega arith; inside = λ v h. absurd (omega (arith, h)) }; names = refl }

used_none : (slots : List ℕ) → ((i : ℕ) → get_or slots i 0 ≡ 0) → used slots ≡ 0
unfolding used
used_none [] free = refl
used_none (zero ∷ slots) free = used_none slots (λ i. free (suc i))
used_none (suc v ∷ slots) free = absurd (suc-ne-zero v (free 0))

-- slots that are all free, few or many
pub free_filed : (slots : List ℕ) → ((i : ℕ) → get_or slots i 0 ≡ 0) → Filed (length slots) [] slots
free_filed slots free = record { long = refl; count = used_none slots free; low = λ i. rw (free i) (le_refl 0); finds = λ v h. absurd (omega (arith, h)) }

zeros : (n i : ℕ) → get_or {A = ℕ} (replicate n 0) i 0 ≡ 0
zeros zero i = refl
zeros (suc n) zero = refl
zeros (suc n) (suc i) = zeros n i

front_zeros : (m n i : ℕ) → get_or {A = ℕ} (take m (replicate n 0)) i 0 ≡ 0
front_zeros zero n i = refl
front_zeros (suc m) zero i = refl
front_zeros (suc m) (suc n) zero = refl
front_zeros (suc m) (suc n) (suc i) = front_zeros m n i

-- a new array of them, or its front
pub none_filed : (n : ℕ) → Filed (length {A = ℕ} (replicate n 0)) [] (replicate n 0)
none_filed n = free_filed (replicate n 0) (zeros n)

pub front_filed : (m n : ℕ) → Filed (length {A = ℕ} (take m (replicate n 0))) [] (take m (replicate n 0))
front_filed m n = free_filed (take m (replicate n 0)) (front_zeros m n)

-- ---- the names at places
pub known_count : (text : Bytes) (positions : List ℕ) (count : ℕ) (known : List Bytes) → Known text positions count known → length known ≡ count
known_count text positions count known k = ap length (sym k.names) ∙ names_length text positions count k.listed.room

map_more : (f : ℕ → Bytes) (xs : List ℕ) (x : ℕ) → map f (xs ++ (x ∷ [])) ≡ map f xs ++ (f x ∷ [])
map_more f [] x = refl
map_more f (y ∷ xs) x = ap (λ (zs : List Bytes). f y ∷ zs) (map_more f xs x)

known_more : (text : Bytes) (positions : List ℕ) (count : ℕ) (known : List Bytes) (from : ℕ) → Known text positions count known → count < length positions → from ≤ length text
    → Known text (set positions count from) (suc count) (known ++ (name_at text from ∷ []))
unfolding names_at
known_more text positions count known from k room low = record {
  listed = record {
    room = let l = length-set positions count from in omega (arith, room, l);
    inside = λ v h. place v h (eqb v count) refl;
  };
  names =
      ap (map (name_at text)) (take-suc-set positions count from room)
      ∙ map_more (name_at text) (take count positions) from
      ∙ ap (λ (x : List Bytes). x ++ (name_at text from ∷ [])) k.names;
}
  where
    place : (v : ℕ) → v < suc count → (x : Bool) → eqb v count ≡ x → get_or (set positions count from) v 0 ≤ length text
    place v h true e = rw (eqb-true v count e, get_or-set_same positions count from 0 room) low
    place v h false e = let d = eqb-false v count e in rw (get_or-set_other positions count v from 0 d) (k.listed.inside v (omega (arith, h, d)))

known_new : (text : Bytes) (positions : List ℕ) (count : ℕ) (known : List Bytes) (from : ℕ) → Known text positions count known → count < length positions → from ≤ length text → id_in known (name_at text from) ≡ length known
    → Known text (set positions count from) (length (learnt known (name_at text from))) (learnt known (name_at text from))
known_new text positions count known from k room low e =
    subst (λ (x : List Bytes). Known text (set positions count from) (length x) x) (sym (learnt_new known (name_at text from) e))
    (subst (λ (x : ℕ). Known text (set positions count from) x (known ++ (name_at text from ∷ []))) (ap suc (sym (known_count text positions count known k)) ∙ sym (longer known (name_at text from)))
    (known_more text positions count known from k room low))

known_old : (text : Bytes) (positions : List ℕ) (count : ℕ) (known : List Bytes) (name : Bytes) → Known text positions count known → id_in known name < length known
    → Known text positions (length (learnt known name)) (learnt known name)
known_old text positions count known name k h =
    subst (λ (x : List Bytes). Known text positions (length x) x) (sym (learnt_old known name h))
    (subst (λ (x : ℕ). Known text positions x known) (sym (known_count text positions count known k)) k)

-- ---- a label
pub label_new : (text : Bytes) (positions : List ℕ) (count : ℕ) (known : List Bytes) (from id : ℕ) → Known text positions count known → count < length positions → from ≤ length text → id ≡ id_in known (name_at text from) → id ≡ count
    → LearntLabel text known (name_at text from) (set positions count from) id
label_new text positions count known from id k room low e new = record {
  first = e;
  knows = known_new text positions count known from k room low (sym e ∙ new ∙ sym (known_count text positions count known k));
}

pub label_old : (text : Bytes) (positions : List ℕ) (count : ℕ) (known : List Bytes) (name : Bytes) (id : ℕ) → Known text positions count known → id ≡ id_in known name → (id ≡ count → ⊥)
    → LearntLabel text known name positions id
label_old text positions count known name id k e old =
    let n = known_count text positions count known k in
    let u = (id_meant known name).upto in
    record { first = e; knows = known_old text positions count known name k (omega (arith, n, u, e, old)) }

-- ---- a name in slots
filed_for : (text : Bytes) (slots positions : List ℕ) (count : ℕ) (known : List Bytes) → Tabled text slots positions count → Known text positions count known → Filed (length slots) known slots
filed_for text slots positions count known t k = subst (λ (x : List Bytes). Filed (length slots) x slots) (sym t.knows.names ∙ k.names) t.filed

pub searchable : (text : Bytes) (slots positions : List ℕ) (count : ℕ) → Tabled text slots positions count → Searchable text slots positions count
searchable text slots positions count t =
    let free = t.free in
    record {
      some = omega (arith, free);
      few = t.few;
      low = λ i. subst (λ (x : ℕ). get_or slots i 0 ≤ x) (known_count text positions count t.known t.knows) (t.filed.low i);
      listed = t.knows.listed;
    }

pub slot_inside : (text : Bytes) (slots positions : List ℕ) (count : ℕ) (name : Bytes) (i : ℕ) → Tabled text slots positions count → i ≡ slot_for (length slots) (names_at text positions count) slots name → i < length slots
slot_inside text slots positions count name i t e =
    let free = t.free in
    subst (λ (x : ℕ). x < length slots) (sym e) (slot_low (length slots) (names_at text positions count) slots name (omega (arith, free)))

module _ (text : Bytes) (slots positions : List ℕ) (count : ℕ) (name : Bytes) (i v : ℕ) (t : Tabled text slots positions count) (e : i ≡ slot_for (length slots) (names_at text positions count) slots name)
    (r : v ≡ get_or slots i 0) (known : List Bytes) (k : Known text positions count known) where
  room : length known < length slots
  room = let n = known_count text positions count known k in let free = t.free in omega (arith, n, free)

  ended : SearchEnd (length slots) known slots name
  ended = search_end (length slots) known slots name (filed_for text slots positions count known t k) room

  slot_is : i ≡ slot_for (length slots) known slots name
  slot_is = e ∙ ap (λ (x : List Bytes). slot_for (length slots) x slots name) k.names

  read : get_or slots (slot_for (length slots) known slots name) 0 ≡ v
  read = ap (λ (x : ℕ). get_or slots x 0) (sym slot_is) ∙ sym r

  pub id_new : v ≡ 0 → count ≡ id_in known name
  id_new z = sym (ended.free (read ∙ z) ∙ known_count text positions count known k)

  pub id_old : (v ≡ 0 → ⊥) → v - 1 ≡ id_in known name
  id_old full = ap (λ (x : ℕ). x - 1) (sym read ∙ ended.taken (λ z. full (sym read ∙ z))) ∙ less (id_in known name)
    where
      less : (x : ℕ) → suc x - 1 ≡ x
      less x = omega arith

  pub name_old : (v ≡ 0 → ⊥) → LearntName text known name slots positions (v - 1)
  name_old full =
      let h : id_in known name < length known = ended.known_name (λ z. full (sym read ∙ z)) in
      record {
        first = id_old full;
        knows = known_old text positions count known name k h;
        filed = subst (λ (x : List Bytes). Filed (length slots) x slots) (sym (learnt_old known name h)) (filed_for text slots positions count known t k);
      }

  filed_new : (w : ℕ) → w ≡ count + 1 → v ≡ 0 → Filed (length (set slots i w)) (learnt known name) (set slots i w)
  filed_new w m z =
      subst (λ (x : ℕ). Filed x (learnt known name) (set slots i w)) (sym (length-set slots i w))
      (subst (λ (x : List Bytes). Filed (length slots) x (set slots i w)) (sym (learnt_new known name (ended.free (read ∙ z))))
      (subst (λ (x : List ℕ). Filed (length slots) (known ++ (name ∷ [])) x) written
      (filed_more (length slots) known slots name (filed_for text slots positions count known t k) room (read ∙ z))))
    where
      written : set slots (slot_for (length slots) known slots name) (suc (length known)) ≡ set slots i w
      written = ap (λ (x : ℕ). set slots x (suc (length known))) (sym slot_is) ∙ ap (set slots i) (ap suc (known_count text positions count known k) ∙ sym (add-one count) ∙ sym m)

pub name_new : (text : Bytes) (slots positions : List ℕ) (count from i v : ℕ) (t : Tabled text slots positions count) (e : i ≡ slot_for (length slots) (names_at text positions count) slots (name_at text from))
    (r : v ≡ get_or slots i 0) (known : List Bytes) (k : Known text positions count known) → count < length positions → from ≤ length text → (w : ℕ) → w ≡ count + 1 → v ≡ 0
    → LearntName text known (name_at text from) (set slots i w) (set positions count from) count
name_new text slots positions count from i v t e r known k room low w m z =
    let first = id_new text slots positions count (name_at text from) i v t e r known k z in
    record {
      first = first;
      knows = known_new text positions count known from k room low (sym first ∙ sym (known_count text positions count known k));
      filed = filed_new text slots positions count (name_at text from) i v t e r known k w m z;
    }
