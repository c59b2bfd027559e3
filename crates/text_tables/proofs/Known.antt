-- Names by first appearance: an id stays what it was when more is learnt, and leads back to its name. Assumes nothing.
use mathlib.Core.Path.{◌≡◌, refl, sym, ap, ◌∙◌}
use mathlib.Core.Bool.{Bool, true, false, cond, ◌&&◌, false≢true}
use mathlib.Core.List.{List, [], ◌∷◌, ◌++◌, append-nil, append_assoc}
use Prim.Native.Nat.{suc, ◌+◌, ◌≤◌, ◌<◌, suc-le-suc}
use native.Mathlib.Nat.{not-suc-le-zero, le_of_suc-le-suc}
use native.Mathlib.Omega.{arith}
use lib.Dec.{eqb, ltb}
use lib.ListN.{length, get_or, length-append}
use borrow.Author.Tests.{eqb-true, eq-eqb, ltb-true, ltb-false, lt-ltb, le-ltb}
use Rattle.layout.specs.Layout.{Bytes}
use Rattle.text_tables.specs.Distinct.{same, id_in, learnt, learnt_all}

-- ---- the same bytes
pub same_self : (n : Bytes) → same n n ≡ true
unfolding same
same_self [] = refl
same_self (b ∷ n) = rw (eq-eqb b b refl) (same_self n)

pub same_is : (m n : Bytes) → same m n ≡ true → m ≡ n
unfolding same
same_is [] [] e = refl
same_is [] (b ∷ n) e = absurd (false≢true e)
same_is (a ∷ m) [] e = absurd (false≢true e)
same_is (a ∷ m) (b ∷ n) e = go (eqb a b) refl (same_is m n) e
  where
    go : (t : Bool) → eqb a b ≡ t → (same m n ≡ true → m ≡ n) → t && same m n ≡ true → a ∷ m ≡ b ∷ n
    go true p rest q = λ i. eqb-true a b p i ∷ rest q i
    go false p rest q = absurd (false≢true q)

-- ---- an id
pub id_at_most : (known : List Bytes) (n : Bytes) → id_in known n ≤ length known
unfolding id_in
id_at_most [] n = omega arith
id_at_most (m ∷ known) n = go (same m n) (id_at_most known n)
  where
    go : (t : Bool) → id_in known n ≤ length known → cond t 0 (suc (id_in known n)) ≤ suc (length known)
    go true rest = omega arith
    go false rest = suc-le-suc rest

-- it leads back to the name
pub id_name : (known : List Bytes) (n d : Bytes) → id_in known n < length known → get_or known (id_in known n) d ≡ n
unfolding id_in
id_name [] n d h = absurd (not-suc-le-zero h)
id_name (m ∷ known) n d h = go (same m n) refl (id_name known n d) h
  where
    go : (t : Bool) → same m n ≡ t → (id_in known n < length known → get_or known (id_in known n) d ≡ n) → cond t 0 (suc (id_in known n)) < suc (length known) → get_or (m ∷ known) (cond t 0 (suc (id_in known n))) d ≡ n
    go true p rest k = same_is m n p
    go false p rest k = rest (le_of_suc-le-suc k)

-- and stays what it is behind more names
pub id_before : (known more : List Bytes) (n : Bytes) → id_in known n < length known → id_in (known ++ more) n ≡ id_in known n
unfolding id_in
id_before [] more n h = absurd (not-suc-le-zero h)
id_before (m ∷ known) more n h = go (same m n) (id_before known more n) h
  where
    go : (t : Bool) → (id_in known n < length known → id_in (known ++ more) n ≡ id_in known n) → cond t 0 (suc (id_in known n)) < suc (length known) → cond t 0 (suc (id_in (known ++ more) n)) ≡ cond t 0 (suc (id_in known n))
    go true rest k = refl
    go false rest k = ap suc (rest (le_of_suc-le-suc k))

-- that of a new name is how many were known
pub id_new : (known : List Bytes) (n : Bytes) → length known ≤ id_in known n → id_in (known ++ (n ∷ [])) n ≡ id_in known n
unfolding id_in
id_new [] n h = rw (same_self n)
id_new (m ∷ known) n h = go (same m n) (id_new known n) h
  where
    go : (t : Bool) → (length known ≤ id_in known n → id_in (known ++ (n ∷ [])) n ≡ id_in known n) → suc (length known) ≤ cond t 0 (suc (id_in known n)) → cond t 0 (suc (id_in (known ++ (n ∷ [])) n)) ≡ cond t 0 (suc (id_in known n))
    go true rest k = refl
    go false rest k = ap suc (rest (le_of_suc-le-suc k))

-- ---- one name more: known names stay in front, and the name has the id that it had when it was met
pub learnt_behind : (known : List Bytes) (n : Bytes) → (more : List Bytes) × (learnt known n ≡ known ++ more)
unfolding learnt
learnt_behind known n = go (ltb (id_in known n) (length known))
  where
    go : (t : Bool) → (more : List Bytes) × (cond t known (known ++ (n ∷ [])) ≡ known ++ more)
    go true = ([], sym (append-nil known))
    go false = (n ∷ [], refl)

pub learnt_knows : (known : List Bytes) (n : Bytes) → id_in (learnt known n) n < length (learnt known n)
unfolding learnt
learnt_knows known n = go (ltb (id_in known n) (length known)) refl
  where
    go : (t : Bool) → ltb (id_in known n) (length known) ≡ t → id_in (cond t known (known ++ (n ∷ []))) n < length (cond t known (known ++ (n ∷ [])))
    go true p = ltb-true (id_in known n) (length known) p
    go false p =
        rw (id_new known n (ltb-false (id_in known n) (length known) p), length-append known (n ∷ []))
        (let h = id_at_most known n in omega (arith, h))

pub learnt_id : (known : List Bytes) (n : Bytes) → id_in (learnt known n) n ≡ id_in known n
unfolding learnt
learnt_id known n = go (ltb (id_in known n) (length known)) refl
  where
    go : (t : Bool) → ltb (id_in known n) (length known) ≡ t → id_in (cond t known (known ++ (n ∷ []))) n ≡ id_in known n
    go true p = refl
    go false p = id_new known n (ltb-false (id_in known n) (length known) p)

-- one that is known is not learnt again; one that is not comes behind
pub learnt_known : (known : List Bytes) (n : Bytes) → id_in known n < length known → learnt known n ≡ known
unfolding learnt
learnt_known known n h = rw (lt-ltb (id_in known n) (length known) h)

pub learnt_new : (known : List Bytes) (n : Bytes) → id_in known n ≡ length known → learnt known n ≡ known ++ (n ∷ [])
unfolding learnt
learnt_new known n e = rw (le-ltb (id_in known n) (length known) (omega (arith, e)))

-- ---- several
pub learnt_each : (known ms ns : List Bytes) → learnt_all known (ms ++ ns) ≡ learnt_all (learnt_all known ms) ns
unfolding learnt_all
learnt_each known [] ns = refl
learnt_each known (m ∷ ms) ns = learnt_each (learnt known m) ms ns

pub learnt_one : (known : List Bytes) (n : Bytes) → learnt_all known (n ∷ []) ≡ learnt known n
unfolding learnt_all
learnt_one known n = refl

pub all_behind : (known ns : List Bytes) → (more : List Bytes) × (learnt_all known ns ≡ known ++ more)
unfolding learnt_all
all_behind known [] = ([], sym (append-nil known))
all_behind known (n ∷ ns) =
    let a = learnt_behind known n in
    let b = all_behind (learnt known n) ns in
    (a.0 ++ b.0, b.1 ∙ ap (λ (k : List Bytes). k ++ b.0) a.1 ∙ append_assoc known a.0 b.0)

-- "Names get ids by first appearance": an id is the same under all names as under those known when it was given
pub id_stays : (known ns : List Bytes) (n : Bytes) → id_in known n < length known → id_in (learnt_all known ns) n ≡ id_in known n
id_stays known ns n h = let a = all_behind known ns in ap (λ (k : List Bytes). id_in k n) a.1 ∙ id_before known a.0 n h

pub still_known : (known ns : List Bytes) (n : Bytes) → id_in known n < length known → id_in (learnt_all known ns) n < length (learnt_all known ns)
still_known known ns n h =
    let a = all_behind known ns in
    rw (a.1, id_before known a.0 n h, length-append known a.0) (omega (arith, h))

pub id_of_met : (known ns : List Bytes) (n : Bytes) → id_in (learnt_all known (n ∷ ns)) n ≡ id_in known n
unfolding learnt_all
id_of_met known ns n = id_stays (learnt known n) ns n (learnt_knows known n) ∙ learnt_id known n

-- each name of a list is known
abbrev pub EachKnown : List Bytes → List Bytes → Type 0
EachKnown known [] = Unit {0}
EachKnown known (n ∷ ns) = (id_in known n < length known) × EachKnown known ns

pub each_known : (known ns : List Bytes) → EachKnown (learnt_all known ns) ns
unfolding learnt_all
each_known known [] = tt
each_known known (n ∷ ns) = (still_known (learnt known n) ns n (learnt_knows known n), each_known (learnt known n) ns)
