-- The laws that proofs of checks cite: of one search, and of which check gives the answer. Assumes nothing.
use Rattle.std.specs.Prelude.{Ok, Err, Result}
use mathlib.Core.Path.{◌≡◌, refl, sym, ◌∙◌, ap}
use Rattle.std.specs.Result.{result_and, IsErrAnd}
use Rattle.std.proofs.lemmas.Result.{err_from_is_err_and}
use mathlib.Core.Bool.{Bool, true, false, ◌||◌, true≢false}
use mathlib.Core.List.{List, [], ◌∷◌}
use mathlib.Core.Logic.{◌⊎◌, inl, inr}
use Prim.Native.Nat.{ℕ, zero, suc, ◌+◌, ◌-◌, ◌<◌, ◌≤◌}
use native.Mathlib.Numerals.{add-one}
use native.Mathlib.Omega.{arith}
use borrow.Author.Tests.{ltb-false}
use Rattle.refusals.specs.Refusals.{refused_at, refuse, or_next_of, lowest, first_from, first, Checked}
use Rattle.refusals.specs.Tables.{short}
use Rattle.refusals.specs.Meaning.{AllAccepted, FirstRefused}
use Rattle.refusals.specs.declared.Refusal.{Refusal}

-- what a `?` hands on
pub handed : {T : Type 0} {r : Result T Refusal} {why : Refusal} → IsErrAnd r (λ w. w ≡ why) → r ≡ Err why
handed {r = r} h = let p = err_from_is_err_and r h in rw (p.1, p.2)

-- accepted is not refused
pub never : {A : Type 0} {why : Refusal} {check : Checked} → check ≡ Ok tt → check ≡ Err why → A
never h k = let z : ◌≡◌ {A = ℕ} 0 1 = cc in absurd (omega arith)

-- the number and the place of a refusal
abbrev number_of : Checked → ℕ
number_of (Ok _) = 0
number_of (Err why) = why.number

abbrev place_of : Checked → ℕ
place_of (Ok _) = 0
place_of (Err why) = why.place

pub number_of_lem : {number place : ℕ} {why : Refusal} → Err why ≡ refused_at number place → why.number ≡ number
number_of_lem h = ap number_of h

pub place_of_lem : {number place : ℕ} {why : Refusal} → Err why ≡ refused_at number place → why.place ≡ place
place_of_lem h = ap place_of h

-- ---- one test

pub passes : (number place : ℕ) (test : Bool) → refuse number place test ≡ Ok tt → test ≡ false
unfolding refuse
passes number place true h = never h refl
passes number place false h = refl

pub holds : (number place : ℕ) (test : Bool) (why : Refusal) → refuse number place test ≡ Err why → (test ≡ true) × (Err why ≡ refused_at number place)
unfolding refuse
holds number place true why h = (refl, sym h)
holds number place false why h = never refl h

-- a test refuses under its own number only
pub test_number : (number place : ℕ) (test : Bool) (why : Refusal) → refuse number place test ≡ Err why → why.number ≡ number
test_number number place test why h = number_of_lem (holds number place test why h).1

-- ---- one search

-- the invariant of every search: i is within its end, and no place below i is refused
pub record Passed (number : ℕ) (test : ℕ → Bool) (end i : ℕ) : Type 0 where
  pub inside : i ≤ end
  pub accepted : lowest number test i ≡ Ok tt

module _ (number : ℕ) (test : ℕ → Bool) where
  keep : (i k : ℕ) → lowest number test (suc i) ≡ refused_at number i → lowest number test (suc (k + i)) ≡ refused_at number i
  unfolding lowest or_next_of
  keep i zero h = let e : zero + i ≡ i = omega arith in rw e h
  keep i (suc k) h = let e : suc k + i ≡ suc (k + i) = omega arith in rw (e, keep i k h)

  -- the test holds at i, and at no place below
  pub hit : (n i : ℕ) → i < n → lowest number test i ≡ Ok tt → test i ≡ true → lowest number test n ≡ refused_at number i
  unfolding lowest or_next_of refuse
  hit n i l h t =
      let e : n ≡ suc (n - suc i + i) = omega arith in
      rw e (keep i (n - suc i) (rw (h, t)))

module _ {number : ℕ} {test : ℕ → Bool} {end : ℕ} where
  pub begin : Passed number test end 0
  unfolding lowest
  begin = record { inside = omega arith; accepted = refl }

  pub step : {i : ℕ} → Passed number test end i → i < end → test i ≡ false → Passed number test end (i + 1)
  unfolding lowest or_next_of refuse
  step p l t = record { inside = omega arith; accepted = rw (add-one, p.accepted, t) }

  -- a place that is not refused: the search goes on
  pub goes_on : {i : ℕ} {r : Checked} → Passed number test end i → i < end → r ≡ refuse number i (test i) → r ≡ Ok tt → Passed number test end (i + 1)
  goes_on {i} p l e h = step p l (passes number i (test i) (sym e ∙ h))

  -- a place that is refused is what the table's check says
  pub stops : {i : ℕ} {r : Checked} {why : Refusal} → Passed number test end i → i < end → r ≡ refuse number i (test i) → r ≡ Err why → Err why ≡ lowest number test end
  stops {i} {why = why} p l e h =
      let t = holds number i (test i) why (sym e ∙ h) in
      t.1 ∙ sym (hit number test end i l p.accepted t.0)

  -- the same, where the loop tests and refuses by itself
  pub hits : {i : ℕ} {r : Checked} → Passed number test end i → i < end → test i ≡ true → r ≡ refused_at number i → r ≡ lowest number test end
  hits {i} p l t e = e ∙ sym (hit number test end i l p.accepted t)

  -- no place is refused
  pub ends : {i : ℕ} → Passed number test end i → end ≤ i → Ok tt ≡ lowest number test end
  ends {i} p l = let e : end ≡ i = omega arith in rw e (sym p.accepted)

-- ---- which check gives the answer

-- nothing is left to try
pub alone : (answer : Checked) → or_next_of answer (Ok tt) ≡ answer
unfolding or_next_of
alone (Ok _) = refl
alone (Err why) = refl

-- a refusal stays
pub settled : (answer : Checked) (checks : List Checked) (why : Refusal) → answer ≡ Err why → first_from answer checks ≡ Err why
unfolding or_next_of
settled answer [] why h = h
settled answer (check ∷ checks) why h = settled (or_next_of answer check) checks why (rw h)

-- an answer, then another
module _ {answer : Checked} (next : Checked) where
  pub next_stops : {why : Refusal} → answer ≡ Err why → Err why ≡ or_next_of answer next
  unfolding or_next_of
  next_stops h = rw h

  pub next_goes : answer ≡ Ok tt → next ≡ or_next_of answer next
  unfolding or_next_of
  next_goes h = rw h

-- `and` of two answers
pub and_next : (answer next : Checked) {r : Checked} → r ≡ result_and answer next → r ≡ or_next_of answer next
unfolding or_next_of
and_next (Ok _) next h = h
and_next (Err why) next h = h

-- both halves of an answer that accepts
pub both : (answer check : Checked) → or_next_of answer check ≡ Ok tt → (answer ≡ Ok tt) × (check ≡ Ok tt)
unfolding or_next_of
both (Ok _) check h = (refl, h)
both (Err why) check h = never h refl

-- which half of an answer refuses
pub either : (answer check : Checked) (why : Refusal) → or_next_of answer check ≡ Err why → (answer ≡ Err why) ⊎ ((answer ≡ Ok tt) × (check ≡ Err why))
unfolding or_next_of
either (Ok _) check why h = inr (refl, h)
either (Err w) check why h = inl h

pub all_accepted : (answer : Checked) (checks : List Checked) → first_from answer checks ≡ Ok tt → (answer ≡ Ok tt) × AllAccepted checks
all_accepted answer [] h = (h, tt)
all_accepted answer (check ∷ checks) h =
    let r = all_accepted (or_next_of answer check) checks h in
    let s = both answer check r.0 in
    (s.0, (s.1, r.1))

pub accepted_all : (checks : List Checked) → AllAccepted checks → first checks ≡ Ok tt
unfolding or_next_of
accepted_all [] h = refl
accepted_all (check ∷ checks) (e, h) = rw e (accepted_all checks h)

pub first_refused : (why : Refusal) (checks : List Checked) → first checks ≡ Err why → FirstRefused why checks
unfolding or_next_of
first_refused why [] h = never refl h
first_refused why ((Ok _) ∷ checks) h = inr (refl, first_refused why checks h)
first_refused why (Err w ∷ checks) h = inl (sym (settled (Err w) checks w refl) ∙ h)

pub refused_first : (why : Refusal) (checks : List Checked) → FirstRefused why checks → first checks ≡ Err why
unfolding or_next_of
refused_first why [] h = absurd h
refused_first why (check ∷ checks) (inl e) = settled (or_next_of (Ok tt) check) checks why e
refused_first why (check ∷ checks) (inr p) = ap (λ (a : Checked). first_from a checks) p.0 ∙ refused_first why checks p.1

-- ---- tests

-- tests that are both false
pub neither : (a b : Bool) → (a || b) ≡ false → (a ≡ false) × (b ≡ false)
neither true b h = absurd (true≢false h)
neither false b h = (refl, h)

-- room for n + 1 starts
pub room_above : (have need : ℕ) → short have (need + 1) ≡ false → need < have
room_above have need h = omega (arith, ltb-false have (need + 1) h)
