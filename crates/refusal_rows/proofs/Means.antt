-- Limits and tests refuse exactly what they say in plain terms. Assumes nothing.
use mathlib.Core.Path.{◌≡◌, refl, ◌∙◌}
use mathlib.Core.Bool.{Bool, true, false, ◌||◌}
use mathlib.Core.List.{List, [], ◌∷◌, ◌++◌}
use mathlib.Core.Logic.{◌↔◌, inl, inr}
use Prim.Native.Nat.{ℕ, ◌<◌, ◌≤◌}
use native.Mathlib.Omega.{arith}
use borrow.Author.Tests.{ltb-false, le-ltb}
use lib.Dec.{ltb}
use Rattle.refusals.specs.Tables.{outside}
use Rattle.refusals.specs.Bounds.{Bound, span, up_to, the_line_words, bound, beyond, Inside, most, outside_its}
use Rattle.refusals.specs.Meaning.{Exactly, AllAccepted, FirstRefused}
use Rattle.refusals.proofs.Laws.{neither, passes}
use Rattle.refusals.proofs.Meant.{exactly, starts_mean, kinds_mean, ids_mean, sources_mean, numbers_mean}
use Rattle.score_tables.specs.Sound.{WordsIn}
use Rattle.score_tables.specs.Meaning.{Row}
use Rattle.score_tables.proofs.Order.{row, Never, not_table, why}
use Rattle.refusal_rows.specs.Limits.{Limit, count, at_most, room, broken, broken_from, any_broken, two, Within, AllWithin}
use Rattle.refusal_rows.specs.Tests.{Test, starts_rise, lines_fit, kinds_known, ids_below, sources_below, numbers_finite, line_length, bad_length, checked, checks, number_of, places, Bad, Good, AllGood, FirstBadOf}

-- ---- limits

pub outside_means : (least most n : ℕ) → outside least most n ≡ false ↔ (least ≤ n) × (n ≤ most)
outside_means least most n = (
  λ h. let o = neither (ltb n least) (ltb most n) h in (ltb-false n least o.0, ltb-false most n o.1),
  λ w. rw (le-ltb n least w.0, le-ltb most n w.1),
)

beyond_means : (b : Bound) (n : ℕ) → beyond b n ≡ false ↔ Inside b n
beyond_means (span least most) n = outside_means least most n
beyond_means (up_to most) n = (ltb-false most n, le-ltb most n)

limit_means : (limit : Limit) → broken limit ≡ false ↔ Within limit
limit_means (count which n) = beyond_means (bound which) n
limit_means (at_most which n) = (ltb-false (most which) n, le-ltb (most which) n)
limit_means (room have need) = (ltb-false have need, le-ltb have need)

-- the answer so far is no, and no limit is broken
none_broken : (answer : Bool) (limits : List Limit) → broken_from answer limits ≡ false ↔ (answer ≡ false) × AllWithin limits
none_broken answer [] = (λ h. (h, tt), λ p. p.0)
none_broken answer (limit ∷ limits) =
    let r = none_broken (answer || broken limit) limits in (
      λ h.
          let s = r.0 h in
          let o = neither answer (broken limit) s.0 in
          (o.0, ((limit_means limit).0 o.1, s.1)),
      λ p. r.1 (rw (p.0, (limit_means limit).1 p.1.0), p.1.1),
    )

pub limits_mean : (limits : List Limit) → any_broken limits ≡ false ↔ AllWithin limits
limits_mean limits = let n = none_broken false limits in (λ h. (n.0 h).1, λ a. n.1 (refl, a))

-- 2 is given exactly when a limit is broken
pub two_means : (limits : List Limit) → Row (two limits) 2 (AllWithin limits)
two_means limits = row 2 _ (λ h. (limits_mean limits).0 (passes 2 0 _ h)) (limits_mean limits).1

or_assoc : (a b c : Bool) → (a || b || c) ≡ (a || (b || c))
or_assoc true b c = refl
or_assoc false b c = refl

broken_or : (answer : Bool) (limits : List Limit) → broken_from answer limits ≡ (answer || any_broken limits)
broken_or true [] = refl
broken_or false [] = refl
broken_or answer (limit ∷ limits) =
    broken_or (answer || broken limit) limits ∙ or_assoc answer (broken limit) (any_broken limits) ∙ rw (broken_or (broken limit) limits)

broken_on : (answer : Bool) (these those : List Limit) → broken_from answer (these ++ those) ≡ broken_from (broken_from answer these) those
broken_on answer [] those = refl
broken_on answer (limit ∷ these) those = broken_on (answer || broken limit) these those

-- limits in two parts
pub broken_parts : (these those : List Limit) → any_broken (these ++ those) ≡ (any_broken these || any_broken those)
broken_parts these those = broken_on false these those ∙ broken_or (any_broken these) those

pub within_parts : (these those : List Limit) → AllWithin (these ++ those) → AllWithin these × AllWithin those
within_parts [] those a = (tt, a)
within_parts (limit ∷ these) those a = let s = within_parts these those a.1 in ((a.0, s.0), s.1)

pub within_both : (these those : List Limit) → AllWithin these → AllWithin those → AllWithin (these ++ those)
within_both [] those a b = b
within_both (limit ∷ these) those a b = (a.0, within_both these those a.1 b)

-- ---- tests

-- a test that fails exactly where something holds, holds exactly where it does not
otherwise : {Fine : Type 0} (b : Bool) → b ≡ false ↔ Fine → b ≡ true ↔ (Fine → ⊥)
otherwise true m = (λ e f. let z : ◌≡◌ {A = ℕ} 0 1 = cc (m.1 f) in omega arith, λ n. refl)
otherwise false m = (λ e f. let z : ◌≡◌ {A = ℕ} 0 1 = cc in omega arith, λ n. absurd (n (m.0 refl)))

words_mean : (n : ℕ) → outside_its the_line_words n ≡ false ↔ WordsIn n
words_mean n = let m = outside_means 1 (most the_line_words) n in (λ h. record { low = (m.0 h).0; high = (m.0 h).1 }, λ w. m.1 (w.low, w.high))

lengths_mean : (table : List ℕ) (n : ℕ) → Exactly (checked (lines_fit table n)) 4 n (Bad (lines_fit table n))
lengths_mean table n =
    exactly 4 (bad_length table) n (Bad (lines_fit table n))
    (λ i. otherwise (outside_its the_line_words (line_length table i)) (words_mean (line_length table i)))

le_unless : {a b : ℕ} → (b < a → ⊥) → a ≤ b
le_unless h = omega arith

-- instances that all fit
pub fitting : (table : List ℕ) (n : ℕ) → Good (lines_fit table n) → (i : ℕ) → i < n → WordsIn (line_length table i)
fitting table n g i l = record {
  low = le_unless (λ b. g i l (λ w. omega (arith, w.low)));
  high = le_unless (λ b. g i l (λ w. omega (arith, w.high)));
}

pub test_means : (test : Test) → Exactly (checked test) (number_of test) (places test) (Bad test)
test_means (starts_rise which table n entries) = starts_mean table n entries
test_means (lines_fit table n) = lengths_mean table n
test_means (kinds_known which table n) = kinds_mean table n
test_means (ids_below which table n bound) = ids_mean table n bound
test_means (sources_below which kinds table n labels) = sources_mean kinds table n labels
test_means (numbers_finite which table n) = numbers_mean table n

-- every test has this number
abbrev pub Numbered : ℕ → List Test → Type 0
Numbered k [] = Unit
Numbered k (test ∷ tests) = (number_of test ≡ k) × Numbered k tests

pub all_mean : (tests : List Test) → AllAccepted (checks tests) ↔ AllGood tests
all_mean [] = (λ a. a, λ g. g)
all_mean (test ∷ tests) =
    let m = (test_means test).accepted in
    let r = all_mean tests in
    (λ a. (m.0 a.0, r.0 a.1), λ g. (m.1 g.0, r.1 g.1))

pub first_means : (k place : ℕ) (tests : List Test) → Numbered k tests → FirstRefused (why k place) (checks tests) ↔ FirstBadOf tests place
first_means k place tests e = (to tests e, from tests e)
  where
    to : (tests : List Test) → Numbered k tests → FirstRefused (why k place) (checks tests) → FirstBadOf tests place
    to [] e h = h
    to (test ∷ tests) e (inl h) = inl (((test_means test).refused place).0 (rw e.0 h))
    to (test ∷ tests) e (inr p) = inr ((test_means test).accepted.0 p.0, to tests e.1 p.1)

    from : (tests : List Test) → Numbered k tests → FirstBadOf tests place → FirstRefused (why k place) (checks tests)
    from [] e h = h
    from (test ∷ tests) e (inl b) = inl (rw e.0 at (((test_means test).refused place).1 b))
    from (test ∷ tests) e (inr p) = inr ((test_means test).accepted.1 p.0, from tests e.1 p.1)

pub never_means : (k j : ℕ) (tests : List Test) → Numbered k tests → (k ≡ j → ⊥) → Never j (checks tests)
never_means k j [] e d = tt
never_means k j (test ∷ tests) e d = (not_table (test_means test) (rw e.0 d), never_means k j tests e.1 d)

pub good_parts : (these those : List Test) → AllGood (these ++ those) → AllGood these × AllGood those
good_parts [] those a = (tt, a)
good_parts (test ∷ these) those a = let s = good_parts these those a.1 in ((a.0, s.0), s.1)
