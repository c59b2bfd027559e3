-- A call's rows in groups of one number each: the number is given exactly when the groups before are fine, and at the places that its own group says. Assumes nothing.
use Rattle.std.specs.Prelude.{Ok, Err}
use mathlib.Core.Path.{◌≡◌, refl, sym, ◌∙◌, ap}
use mathlib.Core.Bool.{Bool, true, false, not, ◌&&◌}
use mathlib.Core.List.{List, [], ◌∷◌, ◌++◌, append-nil, append_assoc}
use mathlib.Core.Logic.{◌↔◌, ◌⊎◌, inl, inr, ⊎_elim}
use Prim.Native.Nat.{ℕ, ◌<◌}
use native.Mathlib.Omega.{arith}
use borrow.Author.Tests.{eqb-true, eqb-false}
use lib.Dec.{T, eqb, ltb, ltb→lt}
use Rattle.refusals.specs.declared.Refusal.{Refusal}
use Rattle.refusals.specs.Refusals.{Checked, refused_at, first}
use Rattle.refusals.specs.Meaning.{AllAccepted, FirstRefused}
use Rattle.refusals.proofs.Laws.{all_accepted, accepted_all, first_refused, place_of_lem}
use Rattle.score_tables.specs.Meaning.{Row}
use Rattle.score_tables.proofs.Order.{Never, not_row, parted, why, given, foremost}
use Rattle.refusal_rows.specs.Given.{AtZero, OneOf}
use Rattle.refusal_rows.specs.Tests.{Test, checks, AllGood, FirstBadOf}
use Rattle.refusal_rows.proofs.Means.{Numbered, all_mean, first_means, never_means}

-- the rows of one number: when they all accept, and when they refuse at a place
pub record Group : Type 1 where
  pub number : ℕ
  pub rows : List Checked
  pub Fine : Type 0
  pub At : ℕ → Type 0
  pub fine : AllAccepted rows ↔ Fine
  pub at : (place : ℕ) → FirstRefused (why number place) rows ↔ At place
  pub other : (k : ℕ) → (number ≡ k → ⊥) → Never k rows

-- one row, whose place is 0
pub at_zero : {check : Checked} {number : ℕ} {Fine : Type 0} → Row check number Fine → (place : ℕ) → FirstRefused (why number place) (check ∷ []) ↔ AtZero Fine place
at_zero {check} {number} {Fine} r place = (to, λ p. inl (rw p.0 (r.refused.1 p.1)))
  where
    to : FirstRefused (why number place) (check ∷ []) → AtZero Fine place
    to (inl e) = let z : place ≡ 0 = place_of_lem (r.only _ e) in (z, r.refused.0 (rw z at e))
    to (inr p) = absurd p.1

abbrev pub single : {check : Checked} {number : ℕ} {Fine : Type 0} → Row check number Fine → Group
single {check} {number} {Fine} r = record {
  number = number;
  rows = check ∷ [];
  Fine = Fine;
  At = AtZero Fine;
  fine = (λ a. r.accepted.0 a.0, λ f. (r.accepted.1 f, tt));
  at = at_zero r;
  other = λ k d. (not_row r d, tt);
}

-- tests of tables
abbrev pub tested : (number : ℕ) (tests : List Test) → Numbered number tests → Group
tested number tests e = record {
  number = number;
  rows = checks tests;
  Fine = AllGood tests;
  At = FirstBadOf tests;
  fine = all_mean tests;
  at = λ place. first_means number place tests e;
  other = λ k d. never_means number k tests e d;
}

-- all rows of several groups, in order
abbrev pub rows_of : List Group → List Checked
rows_of [] = []
rows_of (group ∷ []) = group.rows
rows_of (group ∷ next ∷ groups) = group.rows ++ rows_of (next ∷ groups)

rows_cons : (group : Group) (groups : List Group) → rows_of (group ∷ groups) ≡ group.rows ++ rows_of groups
rows_cons group [] = sym (append-nil group.rows)
rows_cons group (next ∷ groups) = refl

abbrev pub AllFine : List Group → Type 0
AllFine [] = Unit
AllFine (group ∷ []) = group.Fine
AllFine (group ∷ next ∷ groups) = group.Fine × AllFine (next ∷ groups)

pub all_fine : (groups : List Group) → AllAccepted (rows_of groups) ↔ AllFine groups
all_fine [] = (λ a. a, λ f. f)
all_fine (group ∷ []) = group.fine
all_fine (group ∷ next ∷ groups) =
    let p = parted group.rows (rows_of (next ∷ groups)) in
    let r = all_fine (next ∷ groups) in
    (λ a. let s = p.0 a in (group.fine.0 s.0, r.0 s.1), λ f. p.1 (group.fine.1 f.0, r.1 f.1))

-- none of the groups has this number: a test that computes
abbrev pub without : ℕ → List Group → Bool
without k [] = true
without k (group ∷ groups) = not (eqb group.number k) && without k groups

both : (a b : Bool) → T (a && b) → T a × T b
both true b t = (tt, t)
both false b t = absurd t

no_rows : (xs ys : List Checked) (k : ℕ) → Never k xs → Never k ys → Never k (xs ++ ys)
no_rows [] ys k n m = m
no_rows (check ∷ xs) ys k n m = (n.0, no_rows xs ys k n.1 m)

differ : (a b : ℕ) → T (not (eqb a b)) → a ≡ b → ⊥
differ a b t = go (eqb a b) refl t
  where
    go : (e : Bool) → eqb a b ≡ e → T (not e) → a ≡ b → ⊥
    go true h t = absurd t
    go false h t = eqb-false a b h

never_of : (k : ℕ) (groups : List Group) → T (without k groups) → Never k (rows_of groups)
never_of k [] t = tt
never_of k (group ∷ groups) t =
    let s = both (not (eqb group.number k)) (without k groups) t in
    rw (rows_cons group groups)
    (no_rows group.rows (rows_of groups) k (group.other k (differ group.number k s.0)) (never_of k groups s.1))

rows_append : (xs ys : List Group) → rows_of (xs ++ ys) ≡ rows_of xs ++ rows_of ys
rows_append [] ys = refl
rows_append (group ∷ xs) ys =
    rows_cons group (xs ++ ys)
    ∙ ap (λ (rows : List Checked). group.rows ++ rows) (rows_append xs ys)
    ∙ sym (append_assoc group.rows (rows_of xs) (rows_of ys))
    ∙ ap (λ (rows : List Checked). rows ++ rows_of ys) (sym (rows_cons group xs))

module _ (place : ℕ) where
  pub given_first : (mine : Group) (after : List Group) → T (without mine.number after) →
      first (rows_of (mine ∷ after)) ≡ refused_at mine.number place ↔ mine.At place
  given_first mine after ta =
      rw (rows_cons mine after)
      (foremost mine.number place mine.rows (rows_of after) (never_of mine.number after ta) (mine.at place))

  pub given_after : (before : List Group) (mine : Group) (after : List Group) → T (without mine.number before) → T (without mine.number after) →
      first (rows_of (before ++ mine ∷ after)) ≡ refused_at mine.number place ↔ AllFine before × mine.At place
  given_after before mine after tb ta =
      rw (rows_append before (mine ∷ after), rows_cons mine after)
      (given mine.number place (rows_of before) mine.rows (rows_of after)
      (never_of mine.number before tb) (never_of mine.number after ta)
      (all_fine before) (mine.at place))

-- accepted exactly when every group is fine
pub accepted_when : (groups : List Group) → first (rows_of groups) ≡ Ok tt ↔ AllFine groups
accepted_when groups = (λ h. (all_fine groups).0 (all_accepted (Ok tt) (rows_of groups) h).1, λ f. accepted_all (rows_of groups) ((all_fine groups).1 f))

-- no other number is given
abbrev pub numbers_of : List Group → List ℕ
numbers_of [] = []
numbers_of (group ∷ groups) = group.number ∷ numbers_of groups

module _ (refusal : Refusal) where
  parts : (xs ys : List Checked) → FirstRefused refusal (xs ++ ys) → FirstRefused refusal xs ⊎ FirstRefused refusal ys
  parts [] ys h = inr h
  parts (check ∷ xs) ys (inl e) = inl (inl e)
  parts (check ∷ xs) ys (inr p) = ⊎_elim (λ r. inl (inr (p.0, r))) inr (parts xs ys p.1)

  none : (rows : List Checked) → Never refusal.number rows → FirstRefused refusal rows → ⊥
  none [] n h = h
  none (check ∷ rows) n (inl e) = n.0 refusal.place e
  none (check ∷ rows) n (inr p) = none rows n.1 p.1

  own : (group : Group) → FirstRefused refusal group.rows → refusal.number ≡ group.number
  own group r = go (eqb group.number refusal.number) refl
    where
      go : (e : Bool) → eqb group.number refusal.number ≡ e → refusal.number ≡ group.number
      go true q = sym (eqb-true group.number refusal.number q)
      go false q = absurd (none group.rows (group.other refusal.number (eqb-false group.number refusal.number q)) r)

  whose : (groups : List Group) → FirstRefused refusal (rows_of groups) → OneOf (numbers_of groups) refusal.number
  whose [] r = r
  whose (group ∷ groups) r = ⊎_elim (λ m. inl (own group m)) (λ m. inr (whose groups m)) (parts group.rows (rows_of groups) (rw (rows_cons group groups) at r))

  pub given_only : (groups : List Group) → first (rows_of groups) ≡ Err refusal → OneOf (numbers_of groups) refusal.number
  given_only groups h = whose groups (first_refused refusal (rows_of groups) h)

-- none of these numbers is 0: a test that computes
abbrev pub no_zero : List ℕ → Bool
no_zero [] = true
no_zero (number ∷ numbers) = ltb 0 number && no_zero numbers

pub above_zero : (numbers : List ℕ) (number : ℕ) → T (no_zero numbers) → OneOf numbers number → 0 < number
above_zero [] number t h = absurd h
above_zero (this ∷ numbers) number t (inl e) = let a = ltb→lt 0 this (both (ltb 0 this) (no_zero numbers) t).0 in omega arith
above_zero (this ∷ numbers) number t (inr h) = above_zero numbers number (both (ltb 0 this) (no_zero numbers) t).1 h
