-- Rows in order: one number is given exactly when the rows before its own accept, and its own give it. Assumes nothing.
use Rattle.std.specs.Prelude.{Ok, Err}
use mathlib.Core.Path.{◌≡◌, refl, sym, ◌∙◌}
use mathlib.Core.Bool.{Bool, true, false}
use mathlib.Core.List.{List, [], ◌∷◌, ◌++◌}
use mathlib.Core.Logic.{◌↔◌, inl, inr}
use Prim.Native.Nat.{ℕ}
use Rattle.refusals.specs.declared.Refusal.{Refusal}
use Rattle.refusals.specs.Refusals.{Checked, refused_at, refuse, first}
use Rattle.refusals.specs.Meaning.{FirstBad, Exactly, AllAccepted, FirstRefused}
use Rattle.refusals.proofs.Laws.{never, holds, number_of_lem, first_refused, refused_first}
use Rattle.score_tables.specs.Meaning.{Row}

-- a row of one test, which fails exactly where all is fine
pub row : {Fine : Type 0} (number : ℕ) (test : Bool) → (refuse number 0 test ≡ Ok tt → Fine) → (Fine → test ≡ false) → Row (refuse number 0 test) number Fine
unfolding refuse
row {Fine} number test to from = record {
  accepted = (to, λ f. yes_if test (from f));
  refused = (λ h f. never (yes_if test (from f)) h, λ n. not_if test (λ e. n (to (yes_if test e))));
  only = λ why h. (holds number 0 test why h).1;
}
  where
    yes_if : (test : Bool) → test ≡ false → refuse number 0 test ≡ Ok tt
    yes_if test e = rw e

    not_if : (test : Bool) → (test ≡ false → ⊥) → refuse number 0 test ≡ refused_at number 0
    not_if true n = refl
    not_if false n = absurd (n refl)

-- none of the checks refuses with this number
abbrev pub Never : ℕ → List Checked → Type 0
Never number [] = Unit
Never number (check ∷ checks) = ((place : ℕ) → check ≡ refused_at number place → ⊥) × Never number checks

-- a row, or the check of one table, has its own number only
pub not_row : {check : Checked} {number k : ℕ} {Fine : Type 0} → Row check number Fine → (number ≡ k → ⊥) → (place : ℕ) → check ≡ refused_at k place → ⊥
not_row r d place h = d (sym (number_of_lem (r.only _ h)))

pub not_table : {check : Checked} {number k n : ℕ} {Bad : ℕ → Type 0} → Exactly check number n Bad → (number ≡ k → ⊥) → (place : ℕ) → check ≡ refused_at k place → ⊥
not_table t d place h = d (sym (number_of_lem (t.only _ h)))

-- all of two lists accept
pub parted : (xs ys : List Checked) → AllAccepted (xs ++ ys) ↔ AllAccepted xs × AllAccepted ys
parted xs ys = (to xs, from xs)
  where
    to : (xs : List Checked) → AllAccepted (xs ++ ys) → AllAccepted xs × AllAccepted ys
    to [] a = (tt, a)
    to (check ∷ xs) a = let s = to xs a.1 in ((a.0, s.0), s.1)

    from : (xs : List Checked) → AllAccepted xs × AllAccepted ys → AllAccepted (xs ++ ys)
    from [] p = p.1
    from (check ∷ xs) p = (p.0.0, from xs (p.0.1, p.1))

module _ (number place : ℕ) where
  abbrev pub why : Refusal
  why = record { number = number; place = place }

  none : (checks : List Checked) → Never number checks → FirstRefused why checks → ⊥
  none [] n h = h
  none (check ∷ checks) n (inl e) = n.0 place e
  none (check ∷ checks) n (inr p) = none checks n.1 p.1

  own : (mine after : List Checked) → Never number after → FirstRefused why (mine ++ after) → FirstRefused why mine
  own [] after n h = none after n h
  own (check ∷ mine) after n (inl e) = inl e
  own (check ∷ mine) after n (inr p) = inr (p.0, own mine after n p.1)

  skip : (before rest : List Checked) → Never number before → FirstRefused why (before ++ rest) → AllAccepted before × FirstRefused why rest
  skip [] rest n h = (tt, h)
  skip (check ∷ before) rest n (inl e) = absurd (n.0 place e)
  skip (check ∷ before) rest n (inr p) = let s = skip before rest n.1 p.1 in ((p.0, s.0), s.1)

  more : (mine after : List Checked) → FirstRefused why mine → FirstRefused why (mine ++ after)
  more [] after h = absurd h
  more (check ∷ mine) after (inl e) = inl e
  more (check ∷ mine) after (inr p) = inr (p.0, more mine after p.1)

  behind : (before rest : List Checked) → AllAccepted before → FirstRefused why rest → FirstRefused why (before ++ rest)
  behind [] rest a h = h
  behind (check ∷ before) rest a h = inr (a.0, behind before rest a.1 h)

  pub given : (before mine after : List Checked) → Never number before → Never number after →
      {Fine Mine : Type 0} → AllAccepted before ↔ Fine → FirstRefused why mine ↔ Mine →
      first (before ++ (mine ++ after)) ≡ refused_at number place ↔ Fine × Mine
  given before mine after nb na f m = (
    λ h. let s = skip before (mine ++ after) nb (first_refused why (before ++ (mine ++ after)) h) in (f.0 s.0, m.0 (own mine after na s.1)),
    λ p. refused_first why (before ++ (mine ++ after)) (behind before (mine ++ after) (f.1 p.0) (more mine after (m.1 p.1))),
  )

  -- the same for the rows that come first
  pub foremost : (mine after : List Checked) → Never number after → {Mine : Type 0} → FirstRefused why mine ↔ Mine → first (mine ++ after) ≡ refused_at number place ↔ Mine
  foremost mine after na m =
      let g = given [] mine after tt na (λ u. u, λ u. u) m in
      (λ h. (g.0 h).1, λ x. g.1 (tt, x))

-- the rows of one number: one of them, or two; the check of one table
pub of_one : {check : Checked} {number : ℕ} {Fine : Type 0} → Row check number Fine → FirstRefused (why number 0) (check ∷ []) ↔ (Fine → ⊥)
of_one {check} {number} {Fine} r = (to, λ n. inl (r.refused.1 n))
  where
    to : FirstRefused (why number 0) (check ∷ []) → Fine → ⊥
    to (inl e) = r.refused.0 e
    to (inr p) = absurd p.1

pub of_two : {a b : Checked} {number : ℕ} {P Q : Type 0} → Row a number P → Row b number Q → FirstRefused (why number 0) (a ∷ b ∷ []) ↔ (P × Q → ⊥)
of_two {a} {b} {number} {P} {Q} r s = (to, λ n. from n a refl)
  where
    to : FirstRefused (why number 0) (a ∷ b ∷ []) → P × Q → ⊥
    to (inl e) f = r.refused.0 e f.0
    to (inr (_, inl e)) f = s.refused.0 e f.1
    to (inr (_, inr (_, h))) f = h

    from : (P × Q → ⊥) → (check : Checked) → a ≡ check → FirstRefused (why number 0) (a ∷ b ∷ [])
    from n (Ok _) e = inr (e, inl (s.refused.1 (λ q. n (r.accepted.0 e, q))))
    from n (Err w) e = inl (e ∙ r.only w e)

pub of_table : {check : Checked} {number n : ℕ} {Bad : ℕ → Type 0} (place : ℕ) → Exactly check number n Bad → FirstRefused (why number place) (check ∷ []) ↔ FirstBad Bad n place
of_table {check} {number} {n} {Bad} place t = (to, λ f. inl ((t.refused place).1 f))
  where
    to : FirstRefused (why number place) (check ∷ []) → FirstBad Bad n place
    to (inl e) = (t.refused place).0 e
    to (inr p) = absurd p.1
