-- The sooner of two parts is one part: both limits, and both tests by their numbers, those of one number as they stood. Assumes nothing.
use Rattle.std.specs.Prelude.{Ok, Err}
use mathlib.Core.Path.{◌≡◌, refl, sym, ◌∙◌, ap}
use mathlib.Core.Bool.{Bool, true, false, ◌||◌}
use mathlib.Core.List.{List, [], ◌∷◌, ◌++◌}
use Prim.Native.Nat.{ℕ, zero, suc, ◌<◌}
use native.Mathlib.Omega.{arith}
use lib.Dec.{T}
use Rattle.refusals.specs.declared.Refusal.{Refusal}
use Rattle.refusals.specs.Refusals.{Checked, refuse, or_next_of, first, first_from, rank, sooner}
use Rattle.refusals.proofs.Laws.{number_of_lem, test_number, settled}
use Rattle.refusals.proofs.Ranks.{sooner_assoc, sooner_swap, in_turn, from_first, checks_of, soonest, sorted, none_below, rising, soonest_parts, sorted_soonest, first_soonest, least}
use Rattle.refusal_rows.specs.Limits.{Limit, room, any_broken, two, Within, AllWithin}
use Rattle.refusal_rows.specs.Tests.{Test, starts_rise, lines_fit, kinds_known, ids_below, sources_below, numbers_finite, checked, checks, number_of}
use Rattle.refusal_rows.specs.Parts.{part_checked}
use Rattle.refusal_rows.proofs.Means.{limits_mean, broken_parts, two_means, test_means}

-- ---- tests by their numbers

-- a test refuses under its own number
own : (test : Test) (why : Refusal) → checked test ≡ Err why → rank why ≡ number_of test
own test why h = number_of_lem ((test_means test).only why h)

-- the tests by their numbers, those of one number as they stood
abbrev pub ordered : List Test → List Test
ordered tests = sorted number_of checked tests

-- the numbers never fall: a test that computes
abbrev pub rises : List Test → Bool
rises tests = rising number_of checked tests

abbrev soonest_of : List Test → Checked
soonest_of tests = soonest number_of checked tests

same_checks : (tests : List Test) → checks_of number_of checked tests ≡ checks tests
same_checks [] = refl
same_checks (test ∷ tests) = ap (λ (rest : List Checked). checked test ∷ rest) (same_checks tests)

-- 2 comes before every test
behind_two : (tests : List Test) → T (none_below number_of checked 3 tests)
behind_two [] = tt
behind_two (starts_rise which table n entries ∷ tests) = behind_two tests
behind_two (lines_fit table n ∷ tests) = behind_two tests
behind_two (kinds_known which table n ∷ tests) = behind_two tests
behind_two (ids_below which table n bound ∷ tests) = behind_two tests
behind_two (sources_below which kinds table n labels ∷ tests) = behind_two tests
behind_two (numbers_finite which table n ∷ tests) = behind_two tests

above_two : (limits : List Limit) (tests : List Test) (x y : Refusal) → two limits ≡ Err x → soonest_of tests ≡ Err y → rank x < rank y
above_two limits tests x y h k =
    omega (arith, test_number 2 0 (any_broken limits) x h, least number_of checked own 3 tests (behind_two tests) y k)

part_soonest : (limits : List Limit) (tests : List Test) → T (rises tests) → part_checked limits tests ≡ sooner (two limits) (soonest_of tests)
unfolding part_checked or_next_of
part_soonest limits tests t =
    from_first (two limits) (checks tests)
    ∙ ap (λ (rows : List Checked). or_next_of (two limits) (first rows)) (sym (same_checks tests))
    ∙ ap (or_next_of (two limits)) (first_soonest number_of checked own tests t)
    ∙ in_turn (two limits) (soonest_of tests) (λ x y h k. omega (arith, above_two limits tests x y h k))

-- ---- limits together

two_of : (a b : Bool) → sooner (refuse 2 0 a) (refuse 2 0 b) ≡ refuse 2 0 (a || b)
unfolding sooner refuse
two_of true true = refl
two_of true false = refl
two_of false true = refl
two_of false false = refl

two_join : (ls ms : List Limit) → sooner (two ls) (two ms) ≡ two (ls ++ ms)
two_join ls ms = two_of (any_broken ls) (any_broken ms) ∙ ap (refuse 2 0) (sym (broken_parts ls ms))

-- ---- the law

-- four answers, the two in the middle exchanged
middle : (c x d y : Checked) → sooner x d ≡ sooner d x → sooner (sooner c x) (sooner d y) ≡ sooner (sooner c d) (sooner x y)
middle c x d y e =
    sooner_assoc c x (sooner d y)
    ∙ ap (sooner c) (sym (sooner_assoc x d y) ∙ ap (λ (a : Checked). sooner a y) e ∙ sooner_assoc d x y)
    ∙ sym (sooner_assoc c d (sooner x y))

pub joined : (ls ms : List Limit) (xs ys : List Test) → T (rises xs) → T (rises ys) → T (rises (ordered (xs ++ ys))) →
    {a b r : Checked} → a ≡ part_checked ls xs → b ≡ part_checked ms ys → r ≡ sooner a b → r ≡ part_checked (ls ++ ms) (ordered (xs ++ ys))
joined ls ms xs ys s t u {a} {b} ea eb er =
    er
    ∙ ap (λ (c : Checked). sooner c b) (ea ∙ part_soonest ls xs s)
    ∙ ap (sooner (sooner (two ls) (soonest_of xs))) (eb ∙ part_soonest ms ys t)
    ∙ middle (two ls) (soonest_of xs) (two ms) (soonest_of ys) (sym (sooner_swap (two ms) (soonest_of xs) (above_two ms xs)))
    ∙ ap (λ (c : Checked). sooner c (sooner (soonest_of xs) (soonest_of ys))) (two_join ls ms)
    ∙ ap (sooner (two (ls ++ ms))) (sym (sorted_soonest number_of checked own (xs ++ ys) ∙ soonest_parts number_of checked own xs ys))
    ∙ sym (part_soonest (ls ++ ms) (ordered (xs ++ ys)) u)

-- ---- the same limits in another order

-- the limit at a place; behind the end one that is never broken
abbrev pub limit_at : List Limit → ℕ → Limit
limit_at [] i = room 0 0
limit_at (limit ∷ limits) zero = limit
limit_at (limit ∷ limits) (suc i) = limit_at limits i

abbrev pub picked : List Limit → List ℕ → List Limit
picked limits [] = []
picked limits (i ∷ is) = limit_at limits i ∷ picked limits is

within_at : (limits : List Limit) (i : ℕ) → AllWithin limits → Within (limit_at limits i)
within_at [] i w = omega arith
within_at (limit ∷ limits) zero w = w.0
within_at (limit ∷ limits) (suc i) w = within_at limits i w.1

within_picked : (limits : List Limit) (is : List ℕ) → AllWithin limits → AllWithin (picked limits is)
within_picked limits [] w = tt
within_picked limits (i ∷ is) w = (within_at limits i w, within_picked limits is w)

agree : (a b : Bool) → (a ≡ false → b ≡ false) → (b ≡ false → a ≡ false) → a ≡ b
agree true true f g = refl
agree true false f g = g refl
agree false true f g = sym (f refl)
agree false false f g = refl

-- each list is picked from the other
pub same_limits : (xs ys : List Limit) (to from : List ℕ) → picked xs to ≡ ys → picked ys from ≡ xs → any_broken xs ≡ any_broken ys
same_limits xs ys to from p q =
    agree (any_broken xs) (any_broken ys)
    (λ h. (limits_mean ys).1 (rw p at (within_picked xs to ((limits_mean xs).0 h))))
    (λ h. (limits_mean xs).1 (rw q at (within_picked ys from ((limits_mean ys).0 h))))

-- ---- a part as rows of a call

two_in_turn : (answer : Checked) (a b : Bool) → or_next_of (or_next_of answer (refuse 2 0 a)) (refuse 2 0 b) ≡ or_next_of answer (refuse 2 0 (a || b))
unfolding or_next_of refuse
two_in_turn (Err why) a b = refl
two_in_turn (Ok _) true b = refl
two_in_turn (Ok _) false b = refl

-- after the answer so far: 2 of the counts, 2 of the rooms, the tests
pub as_rows : (answer : Checked) (limits counts rooms : List Limit) (tests : List Test) → any_broken limits ≡ any_broken (counts ++ rooms) →
    or_next_of answer (part_checked limits tests) ≡ first_from answer (two counts ∷ two rooms ∷ checks tests)
unfolding part_checked or_next_of
as_rows answer limits counts rooms tests e =
    sym (from_first answer (two limits ∷ checks tests))
    ∙ ap (λ (a : Checked). first_from a (checks tests))
    (ap (λ (b : Bool). or_next_of answer (refuse 2 0 b)) (e ∙ broken_parts counts rooms) ∙ sym (two_in_turn answer (any_broken counts) (any_broken rooms)))

-- ---- a part as code goes through it: its limits, and where none is broken its tests

-- two lists of limits tested at once
pub two_parts : (ls ms : List Limit) → refuse 2 0 (any_broken ls || any_broken ms) ≡ two (ls ++ ms)
two_parts ls ms = ap (refuse 2 0) (sym (broken_parts ls ms))

module _ (limits : List Limit) (tests : List Test) where
  -- an accepted size is within its limits
  pub part_within : {sizes : Checked} → sizes ≡ two limits → sizes ≡ Ok tt → AllWithin limits
  part_within e h = (two_means limits).accepted.0 (sym e ∙ h)
