-- The laws of `sooner`: several answers may be taken together in any way that keeps those of one rank in order. Assumes nothing.
use Rattle.std.specs.Prelude.{Ok, Err}
use mathlib.Core.Path.{◌≡◌, refl, sym, ◌∙◌, ap}
use mathlib.Core.Bool.{Bool, true, false, ◌&&◌, cond}
use mathlib.Core.List.{List, [], ◌∷◌, ◌++◌}
use mathlib.Core.Logic.{◌⊎◌, inl, inr, ⊎_elim}
use Prim.Native.Nat.{ℕ, ◌<◌, ◌≤◌}
use native.Mathlib.Omega.{arith}
use borrow.Author.Tests.{ltb-true, ltb-false, lt-ltb, le-ltb}
use lib.Dec.{T, ltb, leb, leb→le}
use Rattle.refusals.specs.Refusals.{or_next_of, first_from, first, rank, sooner, Checked}
use Rattle.refusals.specs.declared.Refusal.{Refusal}
use Rattle.refusals.proofs.Laws.{never, settled}

-- ---- two and three answers

pub sooner_none : (a : Checked) → sooner a (Ok tt) ≡ a
unfolding sooner
sooner_none (Ok _) = refl
sooner_none (Err x) = refl

pub sooner_assoc : (a b c : Checked) → sooner (sooner a b) c ≡ sooner a (sooner b c)
unfolding sooner
sooner_assoc (Ok _) b c = refl
sooner_assoc (Err x) (Ok _) c = refl
sooner_assoc (Err x) (Err y) (Ok _) = sooner_none (sooner (Err x) (Err y))
sooner_assoc (Err x) (Err y) (Err z) = go (ltb (rank y) (rank x)) (ltb (rank z) (rank y)) refl refl
  where
    go : (p q : Bool) → ltb (rank y) (rank x) ≡ p → ltb (rank z) (rank y) ≡ q → sooner (sooner (Err x) (Err y)) (Err z) ≡ sooner (Err x) (sooner (Err y) (Err z))
    go true true d e =
        let l = ltb-true (rank y) (rank x) d in
        let m = ltb-true (rank z) (rank y) e in
        rw (d, e, lt-ltb (rank z) (rank x) (omega arith))
    go true false d e = rw (d, e, d)
    go false true d e = rw (d, e)
    go false false d e =
        let l = ltb-false (rank y) (rank x) d in
        let m = ltb-false (rank z) (rank y) e in
        rw (d, e, le-ltb (rank z) (rank x) (omega arith), d)

-- every refusal of the one has a lower rank than every refusal of the other, or one not above it
abbrev pub Below : Checked → Checked → Type 0
Below a b = (x y : Refusal) → a ≡ Err x → b ≡ Err y → rank x < rank y

abbrev pub NotAbove : Checked → Checked → Type 0
NotAbove a b = (x y : Refusal) → a ≡ Err x → b ≡ Err y → rank x ≤ rank y

pub sooner_swap : (a b : Checked) → Below a b → sooner a b ≡ sooner b a
unfolding sooner
sooner_swap (Ok _) b l = sym (sooner_none b)
sooner_swap (Err x) (Ok _) l = refl
sooner_swap (Err x) (Err y) l =
    let k : rank x < rank y = l x y refl refl in
    rw (lt-ltb (rank x) (rank y) k, le-ltb (rank y) (rank x) (omega arith))

-- where what comes first has no higher rank, `sooner` is `orNext`
pub in_turn : (a b : Checked) → NotAbove a b → or_next_of a b ≡ sooner a b
unfolding sooner or_next_of
in_turn (Ok _) b l = refl
in_turn (Err x) (Ok _) l = refl
in_turn (Err x) (Err y) l = let k : rank x ≤ rank y = l x y refl refl in rw (le-ltb (rank y) (rank x) k)

-- a refusal is one of the two
pub whose : (a b : Checked) (why : Refusal) → sooner a b ≡ Err why → (a ≡ Err why) ⊎ (b ≡ Err why)
unfolding sooner
whose (Ok _) b why h = inr h
whose (Err x) (Ok _) why h = inl h
whose (Err x) (Err y) why h = go (ltb (rank y) (rank x)) h
  where
    go : (t : Bool) → ◌≡◌ {A = Checked} (cond t (Err y) (Err x)) (Err why) → (◌≡◌ {A = Checked} (Err x) (Err why)) ⊎ (◌≡◌ {A = Checked} (Err y) (Err why))
    go true e = inr e
    go false e = inl e

-- checks in order, after an answer
pub from_first : (answer : Checked) (checks : List Checked) → first_from answer checks ≡ or_next_of answer (first checks)
unfolding or_next_of
from_first (Ok _) checks = refl
from_first (Err why) checks = settled (Err why) checks why refl

both : (a b : Bool) → T (a && b) → T a × T b
both true b t = (tt, t)
both false b t = absurd t

-- ---- a list of things that are checked, each of which refuses under its own rank

module _ {A : Type 0} (rank_of : A → ℕ) (check_of : A → Checked) where
  abbrev pub checks_of : List A → List Checked
  checks_of [] = []
  checks_of (x ∷ xs) = check_of x ∷ checks_of xs

  -- the lowest rank of all, of equal ranks the first
  abbrev pub soonest : List A → Checked
  soonest [] = Ok tt
  soonest (x ∷ xs) = sooner (check_of x) (soonest xs)

  -- by rank, those of one rank as they stood
  abbrev pub put : A → List A → List A
  put x [] = x ∷ []
  put x (y ∷ ys) = cond (ltb (rank_of y) (rank_of x)) (y ∷ put x ys) (x ∷ y ∷ ys)

  abbrev pub sorted : List A → List A
  sorted [] = []
  sorted (x ∷ xs) = put x (sorted xs)

  -- no rank is below this; the ranks never fall: tests that compute
  abbrev pub none_below : ℕ → List A → Bool
  none_below k [] = true
  none_below k (x ∷ xs) = leb k (rank_of x) && none_below k xs

  abbrev pub rising : List A → Bool
  rising [] = true
  rising (x ∷ xs) = none_below (rank_of x) xs && rising xs

  module _ (own : (x : A) (why : Refusal) → check_of x ≡ Err why → rank why ≡ rank_of x) where
    pub soonest_parts : (xs ys : List A) → soonest (xs ++ ys) ≡ sooner (soonest xs) (soonest ys)
    unfolding sooner
    soonest_parts [] ys = refl
    soonest_parts (x ∷ xs) ys = ap (sooner (check_of x)) (soonest_parts xs ys) ∙ sym (sooner_assoc (check_of x) (soonest xs) (soonest ys))

    past : (x y : A) (rest : Checked) → rank_of y < rank_of x → sooner (check_of y) (sooner (check_of x) rest) ≡ sooner (check_of x) (sooner (check_of y) rest)
    past x y rest l =
        sym (sooner_assoc (check_of y) (check_of x) rest)
        ∙ ap (λ (c : Checked). sooner c rest) (sooner_swap (check_of y) (check_of x) (λ v w h k. omega (arith, own y v h, own x w k, l)))
        ∙ sooner_assoc (check_of x) (check_of y) rest

    put_soonest : (x : A) (ys : List A) → soonest (put x ys) ≡ sooner (check_of x) (soonest ys)
    put_soonest x [] = refl
    put_soonest x (y ∷ ys) = go (ltb (rank_of y) (rank_of x)) refl (put_soonest x ys)
      where
        go : (t : Bool) → ltb (rank_of y) (rank_of x) ≡ t → soonest (put x ys) ≡ sooner (check_of x) (soonest ys) → soonest (put x (y ∷ ys)) ≡ sooner (check_of x) (soonest (y ∷ ys))
        go true e h = rw (e, h) (past x y (soonest ys) (ltb-true (rank_of y) (rank_of x) e))
        go false e h = rw e

    pub sorted_soonest : (xs : List A) → soonest (sorted xs) ≡ soonest xs
    sorted_soonest [] = refl
    sorted_soonest (x ∷ xs) = put_soonest x (sorted xs) ∙ ap (sooner (check_of x)) (sorted_soonest xs)

    pub least : (k : ℕ) (xs : List A) → T (none_below k xs) → (why : Refusal) → soonest xs ≡ Err why → k ≤ rank why
    least k [] t why h = never refl h
    least k (x ∷ xs) t why h =
        let s = both (leb k (rank_of x)) (none_below k xs) t in
        ⊎_elim
        (λ e. omega (arith, own x why e, leb→le k (rank_of x) s.0))
        (λ e. least k xs s.1 why e)
        (whose (check_of x) (soonest xs) why h)

    -- the law: what stands in the order of ranks gives its first refusal, and that is the soonest
    pub first_soonest : (xs : List A) → T (rising xs) → first (checks_of xs) ≡ soonest xs
    unfolding or_next_of
    first_soonest [] t = refl
    first_soonest (x ∷ xs) t =
        let s = both (none_below (rank_of x) xs) (rising xs) t in
        from_first (check_of x) (checks_of xs)
        ∙ ap (or_next_of (check_of x)) (first_soonest xs s.1)
        ∙ in_turn (check_of x) (soonest xs) (λ v w h k. omega (arith, own x v h, least (rank_of x) xs s.0 w k))
