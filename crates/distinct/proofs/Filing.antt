-- The table of slots finds each name, and one name more keeps it so. Assumes nothing.
use mathlib.Core.Path.{◌≡◌, refl, sym, ap, subst, ◌∙◌}
use mathlib.Core.Bool.{Bool, true, false, ◌||◌, true≢false, false≢true}
use mathlib.Core.List.{List, [], ◌∷◌, ◌++◌}
use Prim.Native.Nat.{ℕ, zero, suc, ◌+◌, ◌-◌, ◌*◌, ◌/◌, ◌%◌, ◌≤◌, ◌<◌}
use native.Mathlib.Nat.{mod-lt, mod-eq_of_lt, add-mod_right, suc-ne-zero, le_refl, mul_comm, mul-lt-mul_of_pos_right, div-lt_iff_lt-mul}
use native.Mathlib.Omega.{arith}
use lib.Dec.{ltb, eqb, lit<}
use lib.ListN.{length, get_or, set, length-set, get_or-append}
use lib.Seq.{get_or-set_same, get_or-set_other, get_or-append_seam}
use borrow.Author.Tests.{ltb-true, ltb-false, eqb-true, eqb-false, eq-eqb, ne_eqb}
use Rattle.layout.specs.Layout.{Bytes}
use Rattle.text_tables.specs.Distinct.{same, id_in}
use Rattle.distinct.specs.Slots.{hashed, home, slot_at, ends_search, first_step, slot_for, used, Filed}
use Rattle.distinct.proofs.First.{reached_all, only_one_all, holds_all, before_all}
use Rattle.distinct.proofs.Same.{same_false, same_true, eq_same, ne_same, Id, id_meant, longer}

-- ---- a free slot
free : (slots : List ℕ) → used slots < length slots → (i : ℕ) × (i < length slots) × (get_or slots i 0 ≡ 0)
unfolding used
free [] h = absurd (omega (arith, h))
free (zero ∷ slots) h = (0, omega arith, refl)
free (suc v ∷ slots) h = let r = free slots (omega (arith, h)) in (suc r.0, omega (arith, r.1), r.2)

used_more : (slots : List ℕ) (q v : ℕ) → q < length slots → get_or slots q 0 ≡ 0 → used (set slots q (suc v)) ≡ suc (used slots)
unfolding used
used_more [] q v h e = absurd (omega (arith, h))
used_more (zero ∷ slots) zero v h e = refl
used_more (suc w ∷ slots) zero v h e = absurd (suc-ne-zero w e)
used_more (zero ∷ slots) (suc q) v h e = used_more slots q v (omega (arith, h)) e
used_more (suc w ∷ slots) (suc q) v h e = ap suc (used_more slots q v (omega (arith, h)) e)

-- every slot is on the way from every home
on_the_way : (size h i : ℕ) → h < size → i < size → (k : ℕ) × (k < size) × ((h + k) % size ≡ i)
on_the_way size h i a b = go (ltb i h) refl
  where
    wrap : (h i : ℕ) → i < h → h < size → h + (i + size - h) ≡ i + size
    wrap h i l a = omega (arith, l, a)

    straight : (h i : ℕ) → h ≤ i → h + (i - h) ≡ i
    straight h i l = omega (arith, l)

    go : (x : Bool) → ltb i h ≡ x → (k : ℕ) × (k < size) × ((h + k) % size ≡ i)
    go true e =
        let l = ltb-true i h e in
        (i + size - h, omega (arith, l, a, b), ap (λ (z : ℕ). z % size) (wrap h i l a) ∙ add-mod_right i size ∙ mod-eq_of_lt b)
    go false e =
        let l = ltb-false i h e in
        (i - h, omega (arith, l, b), ap (λ (z : ℕ). z % size) (straight h i l) ∙ mod-eq_of_lt b)

-- a product with a number of 32 bits, its upper 32 bits taken, is below the other factor
pub share_low : (size x : ℕ) → 0 < size → x < 4294967296 → x * size / 4294967296 < size
share_low size x some h = (div-lt_iff_lt-mul (lit< tt)).1 (subst (λ (y : ℕ). x * size < y) (mul_comm 4294967296 size) (mul-lt-mul_of_pos_right h some))

pub home_low : (size : ℕ) (n : Bytes) → 0 < size → home size n < size
unfolding home
home_low size n some = share_low size (hashed 0 n * 2654435769 % 4294967296) some (mod-lt (hashed 0 n * 2654435769) (lit< tt))

-- ---- the search
steps : ℕ → List Bytes → List ℕ → Bytes → ℕ
steps size known slots n = first_step (ends_search size known slots n) size 0

slot_is : (size : ℕ) (known : List Bytes) (slots : List ℕ) (n : Bytes) → slot_for size known slots n ≡ slot_at size n (steps size known slots n)
unfolding slot_for steps
slot_is size known slots n = refl

pub slot_low : (size : ℕ) (known : List Bytes) (slots : List ℕ) (n : Bytes) → 0 < size → slot_for size known slots n < size
unfolding slot_for
slot_low size known slots n some = mod-lt (home size n + first_step (ends_search size known slots n) size 0) some

either : (x y : Bool) → x || y ≡ false → (x ≡ false) × (y ≡ false)
either true y e = absurd (true≢false e)
either false y e = (refl, e)

or_right : (x y : Bool) → y ≡ true → x || y ≡ true
or_right true y e = refl
or_right false y e = e

-- a step that does not end the search: its slot is in use by another name
passed : (size : ℕ) (known : List Bytes) (slots : List ℕ) (n : Bytes) (k : ℕ) → ends_search size known slots n k ≡ false → (get_or slots (slot_at size n k) 0 ≡ 0 → ⊥) × (get_or known (get_or slots (slot_at size n k) 0 - 1) [] ≡ n → ⊥)
unfolding ends_search
passed size known slots n k e =
    let b = either (eqb (get_or slots (slot_at size n k) 0) 0) (same (get_or known (get_or slots (slot_at size n k) 0 - 1) []) n) e in
    (eqb-false (get_or slots (slot_at size n k) 0) 0 b.0, same_false (get_or known (get_or slots (slot_at size n k) 0 - 1) []) n b.1)

pub passes : (size : ℕ) (known : List Bytes) (slots : List ℕ) (n : Bytes) (k : ℕ) → (get_or slots (slot_at size n k) 0 ≡ 0 → ⊥) → (get_or known (get_or slots (slot_at size n k) 0 - 1) [] ≡ n → ⊥) → ends_search size known slots n k ≡ false
unfolding ends_search
passes size known slots n k a b = rw (ne_eqb (get_or slots (slot_at size n k) 0) 0 a, ne_same (get_or known (get_or slots (slot_at size n k) 0 - 1) []) n b) refl

pub ends_free : (size : ℕ) (known : List Bytes) (slots : List ℕ) (n : Bytes) (k : ℕ) → get_or slots (slot_at size n k) 0 ≡ 0 → ends_search size known slots n k ≡ true
unfolding ends_search
ends_free size known slots n k e = rw (eq-eqb (get_or slots (slot_at size n k) 0) 0 e) refl

pub ends_id : (size : ℕ) (known : List Bytes) (slots : List ℕ) (n : Bytes) (k : ℕ) → get_or known (get_or slots (slot_at size n k) 0 - 1) [] ≡ n → ends_search size known slots n k ≡ true
unfolding ends_search
ends_id size known slots n k e = or_right (eqb (get_or slots (slot_at size n k) 0) 0) (same (get_or known (get_or slots (slot_at size n k) 0 - 1) []) n) (eq_same (get_or known (get_or slots (slot_at size n k) 0 - 1) []) n e)

-- the search ends: a free slot is on its way
ends : (size : ℕ) (known : List Bytes) (slots : List ℕ) (n : Bytes) → Filed size known slots → length known < size → steps size known slots n < size
unfolding steps
ends size known slots n g room =
    let c = g.count in
    let z = g.long in
    let f = free slots (omega (arith, c, z, room)) in
    let w = on_the_way size (home size n) f.0 (home_low size n (omega (arith, room))) (subst (λ (x : ℕ). f.0 < x) z f.1) in
    reached_all (ends_search size known slots n) size w.0 w.1 (ends_free size known slots n w.0 (ap (λ (x : ℕ). get_or slots x 0) w.2 ∙ f.2))

-- the slot that it ends at
pub record SearchEnd (size : ℕ) (known : List Bytes) (slots : List ℕ) (n : Bytes) : Type 0 where
  pub free : get_or slots (slot_for size known slots n) 0 ≡ 0 → id_in known n ≡ length known
  pub taken : (get_or slots (slot_for size known slots n) 0 ≡ 0 → ⊥) → get_or slots (slot_for size known slots n) 0 ≡ suc (id_in known n)
  pub known_name : (get_or slots (slot_for size known slots n) 0 ≡ 0 → ⊥) → id_in known n < length known

pub search_end : (size : ℕ) (known : List Bytes) (slots : List ℕ) (n : Bytes) → Filed size known slots → length known < size → SearchEnd size known slots n
search_end size known slots n g room = record {
  free = λ e. unknown e (ltb (id_in known n) (length known)) refl;
  taken = λ taken_here. finds_place (inside taken_here);
  known_name = λ taken_here. inside taken_here;
}
  where
    s : ℕ
    s = get_or slots (slot_for size known slots n) 0

    p : Id known n (id_in known n)
    p = id_meant known n

    finds_place : id_in known n < length known → get_or slots (slot_for size known slots n) 0 ≡ suc (id_in known n)
    finds_place h = ap (λ (m : Bytes). get_or slots (slot_for size known slots m) 0) (sym (p.is h)) ∙ g.finds (id_in known n) h

    unknown : get_or slots (slot_for size known slots n) 0 ≡ 0 → (x : Bool) → ltb (id_in known n) (length known) ≡ x → id_in known n ≡ length known
    unknown e true h = absurd (suc-ne-zero (id_in known n) (sym (finds_place (ltb-true (id_in known n) (length known) h)) ∙ e))
    unknown e false h = let a = ltb-false (id_in known n) (length known) h in let b = p.upto in omega (arith, a, b)

    stopped : ends_search size known slots n (steps size known slots n) ≡ true
    stopped = unfold steps in (holds_all (ends_search size known slots n) size (unfold steps in (ends size known slots n g room)))

    inside : (get_or slots (slot_for size known slots n) 0 ≡ 0 → ⊥) → id_in known n < length known
    inside taken_here = go (same (get_or known (get_or slots (slot_for size known slots n) 0 - 1) []) n) refl
      where
        low : get_or slots (slot_for size known slots n) 0 ≤ length known
        low = g.low (slot_for size known slots n)

        go : (x : Bool) → same (get_or known (get_or slots (slot_for size known slots n) 0 - 1) []) n ≡ x → id_in known n < length known
        go true e =
            let b = p.least (get_or slots (slot_for size known slots n) 0 - 1) (omega (arith, low, taken_here)) (same_true (get_or known (get_or slots (slot_for size known slots n) 0 - 1) []) n e) in
            omega (arith, b, low, taken_here)
        go false e =
            absurd (false≢true (sym (passes size known slots n (steps size known slots n) (λ z. taken_here (ap (λ (x : ℕ). get_or slots x 0) (slot_is size known slots n) ∙ z))
            (λ z. same_false (get_or known (get_or slots (slot_for size known slots n) 0 - 1) []) n e (ap (λ (x : ℕ). get_or known (get_or slots x 0 - 1) []) (slot_is size known slots n) ∙ z))) ∙ stopped))

-- ---- one name more, at the free slot where its search ended
module _ (size : ℕ) (known : List Bytes) (slots : List ℕ) (n : Bytes) (g : Filed size known slots) (room : length known < size) (open_slot : get_or slots (slot_for size known slots n) 0 ≡ 0) where
  q : ℕ
  q = slot_for size known slots n

  q_low : q < length slots
  unfolding q
  q_low = subst (λ (x : ℕ). slot_for size known slots n < x) (sym g.long) (slot_low size known slots n (omega (arith, room)))

  more : List Bytes
  more = known ++ (n ∷ [])

  filled : List ℕ
  filled = set slots q (suc (length known))

  other_slot : (i : ℕ) → (get_or slots i 0 ≡ 0 → ⊥) → get_or filled i 0 ≡ get_or slots i 0
  unfolding filled q
  other_slot i taken_here = get_or-set_other slots (slot_for size known slots n) i (suc (length known)) 0 (λ e. taken_here (ap (λ (x : ℕ). get_or slots x 0) e ∙ open_slot))

  own_slot : get_or filled q 0 ≡ suc (length known)
  unfolding filled
  own_slot = get_or-set_same slots q (suc (length known)) 0 q_low

  old_name : (v : ℕ) → v < length known → get_or more v [] ≡ get_or known v []
  unfolding more
  old_name v h = get_or-append known (n ∷ []) [] v h

  new_name : get_or more (length known) [] ≡ n
  unfolding more
  new_name = get_or-append_seam known n [] []

  -- a step that was passed is passed still
  still_passed : (m : Bytes) (k : ℕ) → ends_search size known slots m k ≡ false → ends_search size more filled m k ≡ false
  still_passed m k e =
      let b = passed size known slots m k e in
      let l = g.low (slot_at size m k) in
      let f = other_slot (slot_at size m k) b.0 in
      let taken_here = b.0 in
      passes size more filled m k (λ z. b.0 (sym f ∙ z))
      (λ z. b.1 (sym (old_name (get_or slots (slot_at size m k) 0 - 1) (omega (arith, l, taken_here))) ∙ ap (λ (x : ℕ). get_or more (x - 1) []) (sym f) ∙ z))

  -- so a search that ended ends there still
  same_steps : (m : Bytes) (v : ℕ) → steps size known slots m < size → get_or filled (slot_at size m (steps size known slots m)) 0 ≡ suc v → get_or more v [] ≡ m → slot_for size more filled m ≡ slot_for size known slots m
  unfolding steps
  same_steps m v l e h =
      slot_is size more filled m
      ∙ ap (slot_at size m) (only_one_all (ends_search size more filled m) size (steps size known slots m) l
      (ends_id size more filled m (steps size known slots m) (ap (λ (x : ℕ). get_or more (x - 1) []) e ∙ ap (λ (x : ℕ). get_or more x []) (back v) ∙ h))
      (λ j b. still_passed m j (before_all (ends_search size known slots m) size j b)))
      ∙ sym (slot_is size known slots m)
    where
      back : (v : ℕ) → suc v - 1 ≡ v
      back v = omega arith

  finds_more : (v : ℕ) → v < length more → get_or filled (slot_for size more filled (get_or more v [])) 0 ≡ suc v
  finds_more v h = go (ltb v (length known)) refl
    where
      last : (v : ℕ) → v < length more → length known ≤ v → v ≡ length known
      last v a b = let c : length more ≡ suc (length known) = unfold more in (longer known n) in omega (arith, a, b, c)

      go : (x : Bool) → ltb v (length known) ≡ x → get_or filled (slot_for size more filled (get_or more v [])) 0 ≡ suc v
      go true e =
          let l = ltb-true v (length known) e in
          let m : Bytes = get_or known v [] in
          let f : get_or slots (slot_for size known slots (get_or known v [])) 0 ≡ suc v = g.finds v l in
          let o : get_or filled (slot_for size known slots (get_or known v [])) 0 ≡ suc v = other_slot (slot_for size known slots (get_or known v [])) (λ z. suc-ne-zero v (sym f ∙ z)) ∙ f in
          ap (λ (x : Bytes). get_or filled (slot_for size more filled x) 0) (old_name v l)
          ∙ ap (λ (x : ℕ). get_or filled x 0) (same_steps (get_or known v []) v (ends size known slots (get_or known v []) g room) (ap (λ (x : ℕ). get_or filled x 0) (sym (slot_is size known slots (get_or known v []))) ∙ o) (old_name v l))
          ∙ o
      go false e =
          let l = last v h (ltb-false v (length known) e) in
          subst (λ (x : ℕ). get_or filled (slot_for size more filled (get_or more x [])) 0 ≡ suc x) (sym l)
          (ap (λ (x : Bytes). get_or filled (slot_for size more filled x) 0) new_name
          ∙ ap (λ (x : ℕ). get_or filled x 0) (same_steps n (length known) (ends size known slots n g room) (ap (λ (x : ℕ). get_or filled x 0) (sym (slot_is size known slots n)) ∙ (unfold q in own_slot)) new_name)
          ∙ (unfold q in own_slot))

pub filed_more : (size : ℕ) (known : List Bytes) (slots : List ℕ) (n : Bytes) → Filed size known slots → length known < size → get_or slots (slot_for size known slots n) 0 ≡ 0
    → Filed size (known ++ (n ∷ [])) (set slots (slot_for size known slots n) (suc (length known)))
unfolding more filled q
filed_more size known slots n g room o = record {
  long = length-set slots (slot_for size known slots n) (suc (length known)) ∙ g.long;
  count = used_more slots (slot_for size known slots n) (length known) (q_low size known slots n g room o) o ∙ ap suc g.count ∙ sym (longer known n);
  low = λ i. low i (eqb i (slot_for size known slots n)) refl;
  finds = finds_more size known slots n g room o;
}
  where
    low : (i : ℕ) (x : Bool) → eqb i (slot_for size known slots n) ≡ x → get_or (set slots (slot_for size known slots n) (suc (length known))) i 0 ≤ length (known ++ (n ∷ []))
    low i true e = rw (eqb-true i (slot_for size known slots n) e, get_or-set_same slots (slot_for size known slots n) (suc (length known)) 0 (q_low size known slots n g room o), longer known n) (le_refl (suc (length known)))
    low i false e =
        let a = g.low i in
        rw (get_or-set_other slots (slot_for size known slots n) i (suc (length known)) 0 (eqb-false i (slot_for size known slots n) e), longer known n) (up (get_or slots i 0) (length known) a)
      where
        up : (x y : ℕ) → x ≤ y → x ≤ suc y
        up x y h = omega (arith, h)
