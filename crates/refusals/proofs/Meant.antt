-- The checks of one table mean what `Meaning` says: one law over the test, and each test against its row. Assumes nothing.
use Rattle.std.specs.Prelude.{Ok, Err}
use mathlib.Core.Path.{◌≡◌, refl, sym, ◌∙◌, ap}
use mathlib.Core.Bool.{Bool, true, false, ◌&&◌, ◌||◌, or-true, true≢false, false≢true}
use mathlib.Core.Logic.{◌↔◌, ⊎_elim}
use mathlib.Core.List.{List}
use Prim.Native.Nat.{ℕ, zero, suc, ◌+◌, ◌-◌, ◌<◌, ◌≤◌}
use native.Mathlib.Nat.{lt_of_not-le}
use native.Mathlib.Omega.{arith}
use borrow.Author.Tests.{eqb-true, eqb-false, ltb-true, ltb-false, leb-true, leb-false, eq-eqb, ne_eqb, lt-ltb, le-leb, not-true, not-false}
use lib.Dec.{eqb}
use lib.ListN.{get_or}
use lib.Ieee.{Float, nan}
use lib.Ieee.Scale.{finite}
use Rattle.refusals.specs.Refusals.{refused_at, refuse, or_next_of, lowest}
use Rattle.refusals.specs.Tables.{bad_start, start_before, bad_kind, not_below, bad_source, not_finite, kinds_checked, ids_checked, sources_checked, numbers_checked}
use Rattle.refusals.specs.Meaning.{FirstBad, Exactly, BadStart, not_zero, falls, not_the_count, StartsMean, KindsMean, IdsMean, SourcesMean, NumbersMean, Starts, StartsKept, FirstMeans}
use Rattle.refusals.specs.declared.Refusal.{Refusal}
use Rattle.refusals.proofs.Laws.{hit, never, both, either, passes, holds, number_of_lem, place_of_lem, all_accepted, accepted_all, first_refused, refused_first}

-- ---- the law over the test

unless : (b : Bool) → (b ≡ true → ⊥) → b ≡ false
unless true h = absurd (h refl)
unless false h = refl

-- i is n, or below it
by_last : {A : Type 0} (i n : ℕ) → i < suc n → (i ≡ n → A) → (i < n → A) → A
by_last {A} i n b p q = go (eqb i n) refl
  where
    go : (e : Bool) → eqb i n ≡ e → A
    go true h = p (eqb-true i n h)
    go false h = let d = eqb-false i n h in q (omega arith)

clash : {A : Type 0} (b : Bool) → b ≡ true → b ≡ false → A
clash b p q = absurd (true≢false (sym p ∙ q))

module _ (number : ℕ) (test : ℕ → Bool) where
  pub accepted_means : (n : ℕ) → lowest number test n ≡ Ok tt → (i : ℕ) → i < n → test i ≡ false
  unfolding lowest
  accepted_means zero h i b = absurd (omega arith)
  accepted_means (suc n) h i b =
      let s = both (lowest number test n) (refuse number n (test n)) h in
      by_last i n b (λ e. rw e (passes number n (test n) s.1)) (λ l. accepted_means n s.0 i l)

  pub accepted_if : (n : ℕ) → ((i : ℕ) → i < n → test i ≡ false) → lowest number test n ≡ Ok tt
  unfolding lowest or_next_of refuse
  accepted_if zero h = refl
  accepted_if (suc n) h = let l : n < suc n = omega arith in rw (accepted_if n (λ i b. h i (omega arith)), h n l)

  pub refused_means : (n : ℕ) (why : Refusal) → lowest number test n ≡ Err why → (Err why ≡ refused_at number why.place) × FirstBad (λ i. test i ≡ true) n why.place
  unfolding lowest
  refused_means zero why h = never refl h
  refused_means (suc n) why h =
      ⊎_elim
      (λ e. let r = refused_means n why e in (r.0, record { inside = omega (arith, r.1.inside); bad = r.1.bad; lowest = r.1.lowest }))
      (λ w.
      let t = holds number n (test n) why w.1 in
      let p : why.place ≡ n = place_of_lem t.1 in
      (t.1 ∙ ap (refused_at number) (sym p), rw p (record { inside = omega arith; bad = t.0; lowest = λ j l d. clash (test j) d (accepted_means n w.0 j l) })))
      (either (lowest number test n) (refuse number n (test n)) why h)

  -- a table refuses under its own number only
  pub table_number : (n : ℕ) (why : Refusal) → lowest number test n ≡ Err why → why.number ≡ number
  table_number n why h = number_of_lem (refused_means n why h).0

  -- a check by a test that tells the bad places
  pub exactly : (n : ℕ) (Bad : ℕ → Type 0) → ((i : ℕ) → test i ≡ true ↔ Bad i) → Exactly (lowest number test n) number n Bad
  exactly n Bad tells =
      record {
        accepted = (λ h i l b. clash (test i) ((tells i).1 b) (accepted_means n h i l), λ h. accepted_if n (good n h));
        refused = λ p. (
          λ h. let f = (refused_means n _ h).1 in record { inside = f.inside; bad = (tells p).0 f.bad; lowest = λ j l d. f.lowest j l ((tells j).1 d) },
          λ f. hit number test n p f.inside (accepted_if p (good p f.lowest)) ((tells p).1 f.bad),
        );
        only = λ why h. (refused_means n why h).0;
      }
    where
      good : (m : ℕ) → ((i : ℕ) → i < m → Bad i → ⊥) → (i : ℕ) → i < m → test i ≡ false
      good m h i l = unless (test i) (λ t. h i l ((tells i).0 t))

-- ---- each test against its row

and_both : (a b : Bool) → (a && b) ≡ true → (a ≡ true) × (b ≡ true)
and_both true b h = (refl, h)
and_both false b h = absurd (false≢true h)

one_of : {A : Type 0} (a b : Bool) → (a || b) ≡ true → (a ≡ true → A) → (b ≡ true → A) → A
one_of true b h p q = p refl
one_of false b h p q = q h

pub kinds_mean : KindsMean
kinds_mean kinds n = exactly 5 (bad_kind kinds) n _ (λ i. (λ t. let l = ltb-true 1 (get_or kinds i 0) t in (λ e. omega arith, λ e. omega arith), λ d. lt-ltb 1 (get_or kinds i 0) (omega (arith, d.0, d.1))))

pub ids_mean : IdsMean
ids_mean ids n bound = exactly 5 (not_below ids bound) n _ (λ i. (leb-true bound (get_or ids i 0), le-leb bound (get_or ids i 0)))

pub sources_mean : SourcesMean
sources_mean kinds sources n labels = exactly 5 (bad_source kinds sources labels) n _ (λ i. (λ t. let w = and_both _ _ t in (eqb-true (get_or kinds i 0) 1 w.0, leb-true labels (get_or sources i 0) w.1), λ d. rw (eq-eqb (get_or kinds i 0) 1 d.0, le-leb labels (get_or sources i 0) d.1)))

pub numbers_mean : NumbersMean
numbers_mean numbers n = exactly 6 (not_finite numbers) n _ (λ i. (not-true (finite (get_or numbers i nan)), λ h. rw h))

module _ (starts : List ℕ) (n entries : ℕ) where
  back : (j : ℕ) → suc j - 1 ≡ j
  back j = omega arith

  -- the start before, by whether there is one
  drops : (i : ℕ) → get_or starts i 0 < start_before starts i ↔ (0 < i) × (get_or starts i 0 < get_or starts (i - 1) 0)
  drops zero = (λ h. absurd (omega arith), λ h. absurd (omega (arith, h.0)))
  drops (suc j) = (λ h. (omega arith, rw (back j) h), λ h. rw (back j) at h.1)

  tells : (i : ℕ) → bad_start starts n entries i ≡ true ↔ BadStart starts n entries i
  tells i = (means, if_bad)
    where
      means : bad_start starts n entries i ≡ true → BadStart starts n entries i
      means h =
          one_of _ _ h
          (λ g.
          one_of _ _ g
          (λ a. let w = and_both _ _ a in not_zero (eqb-true i 0 w.0) (eqb-false (get_or starts i 0) 0 (not-true _ w.1)))
          (λ a. let w = (drops i).0 (ltb-true _ _ a) in falls w.0 w.1))
          (λ a. let w = and_both _ _ a in not_the_count (eqb-true i n w.0) (eqb-false (get_or starts i 0) entries (not-true _ w.1)))

      if_bad : BadStart starts n entries i → bad_start starts n entries i ≡ true
      if_bad (not_zero p q) = rw (eq-eqb i 0 p, ne_eqb (get_or starts i 0) 0 q)
      if_bad (falls p q) = rw (lt-ltb (get_or starts i 0) (start_before starts i) ((drops i).1 (p, q)), or-true)
      if_bad (not_the_count p q) = rw (eq-eqb i n p, ne_eqb (get_or starts i 0) entries q, or-true)

pub starts_mean : StartsMean
starts_mean starts n entries = exactly 3 (bad_start starts n entries) (n + 1) (BadStart starts n entries) (tells starts n entries)

-- ---- what an accepted table gives to whoever reads it

pub kinds_known : (kinds : List ℕ) (n : ℕ) → kinds_checked kinds n ≡ Ok tt → (i : ℕ) → i < n → get_or kinds i 0 ≤ 1
kinds_known kinds n h i l = ltb-false 1 (get_or kinds i 0) (accepted_means 5 (bad_kind kinds) n h i l)

pub ids_below : (ids : List ℕ) (n bound : ℕ) → ids_checked ids n bound ≡ Ok tt → (i : ℕ) → i < n → get_or ids i 0 < bound
ids_below ids n bound h i l = leb-false bound (get_or ids i 0) (accepted_means 5 (not_below ids bound) n h i l)

pub sources_below : (kinds sources : List ℕ) (n labels : ℕ) → sources_checked kinds sources n labels ≡ Ok tt → (i : ℕ) → i < n → get_or kinds i 0 ≡ 1 → get_or sources i 0 < labels
sources_below kinds sources n labels h i l k = lt_of_not-le (λ b. (sources_mean kinds sources n labels).accepted.0 h i l (k, b))

pub numbers_finite : (numbers : List Float) (n : ℕ) → numbers_checked numbers n ≡ Ok tt → (i : ℕ) → i < n → finite (get_or numbers i nan) ≡ true
numbers_finite numbers n h i l = not-false (finite (get_or numbers i nan)) (accepted_means 6 (not_finite numbers) n h i l)

same_unless : (a b : ℕ) → ((a ≡ b → ⊥) → ⊥) → a ≡ b
same_unless a b h = go (eqb a b) refl
  where
    go : (e : Bool) → eqb a b ≡ e → a ≡ b
    go true q = eqb-true a b q
    go false q = absurd (h (eqb-false a b q))

le_unless : {a b : ℕ} → (b < a → ⊥) → a ≤ b
le_unless h = omega arith

after : (i : ℕ) → i + 1 - 1 ≡ i
after i = omega arith

broken : {starts : List ℕ} {n entries : ℕ} → Starts starts n entries → (i : ℕ) → i < n + 1 → BadStart starts n entries i → ⊥
broken s i l (not_zero p q) = q (rw p s.begins)
broken {starts} s i l (falls p q) =
    let e : i - 1 + 1 ≡ i = omega arith in
    let r : get_or starts (i - 1) 0 ≤ get_or starts i 0 = rw e at (s.rises (i - 1) (omega arith)) in
    omega arith
broken s i l (not_the_count p q) = q (rw p s.ends)

keep : (starts : List ℕ) (n entries : ℕ) → ((i : ℕ) → i < n + 1 → BadStart starts n entries i → ⊥) → Starts starts n entries
keep starts n entries good =
    record {
      begins = same_unless _ _ (λ d. good 0 (omega arith) (not_zero refl d));
      rises = λ i l. le_unless (λ d. good (i + 1) (omega arith) (falls (omega arith) (rw (after i) d)));
      ends = same_unless _ _ (λ d. good n (omega arith) (not_the_count refl d));
    }

pub starts_kept : StartsKept
starts_kept starts n entries =
    let accepted = (starts_mean starts n entries).accepted in
    (λ h. keep starts n entries (accepted.0 h), λ s. accepted.1 (broken s))

-- every start is within the entries
within_by : {starts : List ℕ} {n entries : ℕ} → Starts starts n entries → (k i : ℕ) → i + k ≡ n → get_or starts i 0 ≤ entries
within_by {n = n} s zero i e = let q : i ≡ n = omega arith in rw (q, s.ends) (omega arith)
within_by s (suc k) i e =
    let r = within_by s k (i + 1) (omega arith) in
    let t = s.rises i (omega arith) in
    omega arith

pub within : {starts : List ℕ} {n entries : ℕ} → Starts starts n entries → (i : ℕ) → i ≤ n → get_or starts i 0 ≤ entries
within {n = n} s i l = within_by s (n - i) i (omega arith)

-- ---- checks in order

pub first_means : FirstMeans
first_means checks = ((λ h. (all_accepted (Ok tt) checks h).1, accepted_all checks), λ why. (first_refused why checks, refused_first why checks))
