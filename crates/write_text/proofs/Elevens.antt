-- 11 in order: the labels, the attributes, the scales, each at its first place that the layout cannot carry. Assumes nothing.
use Rattle.std.specs.Prelude.{Ok}
use mathlib.Core.Path.{◌≡◌, refl}
use mathlib.Core.Bool.{Bool, true, false, true≢false, false≢true}
use mathlib.Core.List.{List, [], ◌∷◌}
use mathlib.Core.Logic.{◌↔◌, inl, inr}
use Prim.Native.Nat.{ℕ}
use Rattle.refusals.specs.Meaning.{Exactly, AllAccepted, FirstRefused}
use Rattle.refusals.proofs.Meant.{exactly}
use Rattle.score_tables.proofs.Order.{Never, not_table, why}
use Rattle.refusal_rows.proofs.Groups.{Group}
use Rattle.text_tables.specs.Written.{string_at}
use Rattle.write_check.specs.Carry.{no_name, not_kept, Carry, named, kept, carried, carries, rows_in, Uncarried, EachCarried, AllCarried, FirstUncarried}
use Rattle.write_check.proofs.Carried.{names_mean, kept_means}

-- a test that fails exactly where something holds, holds exactly where it does not
otherwise : {Fine : Type 0} (b : Bool) → b ≡ false ↔ Fine → b ≡ true ↔ (Fine → ⊥)
otherwise true m = (λ e f. true≢false (m.1 f), λ n. refl)
otherwise false m = (λ e f. false≢true e, λ n. absurd (n (m.0 refl)))

-- and what cannot fail to hold holds
stable : {Fine : Type 0} (b : Bool) → b ≡ false ↔ Fine → ((Fine → ⊥) → ⊥) → Fine
stable true m n = absurd (n (λ f. true≢false (m.1 f)))
stable false m n = m.0 refl

carry_means : (test : Carry) → Exactly (carried test) 11 (rows_in test) (Uncarried test)
carry_means (named s n) = exactly 11 (λ (i : ℕ). no_name (string_at s i)) n (Uncarried (named s n)) (λ i. otherwise (no_name (string_at s i)) (names_mean (string_at s i)))
carry_means (kept s n) = exactly 11 (λ (i : ℕ). not_kept (string_at s i)) n (Uncarried (kept s n)) (λ i. otherwise (not_kept (string_at s i)) (kept_means (string_at s i)))

each_means : (test : Carry) → carried test ≡ Ok tt ↔ EachCarried test
each_means (named s n) =
    let m = (carry_means (named s n)).accepted in
    (λ h i l. stable (no_name (string_at s i)) (names_mean (string_at s i)) (m.0 h i l), λ c. m.1 (λ i l b. b (c i l)))
each_means (kept s n) =
    let m = (carry_means (kept s n)).accepted in
    (λ h i l. stable (not_kept (string_at s i)) (kept_means (string_at s i)) (m.0 h i l), λ c. m.1 (λ i l b. b (c i l)))

pub all_carried : (tests : List Carry) → AllAccepted (carries tests) ↔ AllCarried tests
all_carried [] = (λ a. a, λ c. c)
all_carried (test ∷ tests) =
    let m = each_means test in
    let r = all_carried tests in
    (λ a. (m.0 a.0, r.0 a.1), λ c. (m.1 c.0, r.1 c.1))

pub first_uncarried : (place : ℕ) (tests : List Carry) → FirstRefused (why 11 place) (carries tests) ↔ FirstUncarried tests place
first_uncarried place tests = (to tests, from tests)
  where
    to : (tests : List Carry) → FirstRefused (why 11 place) (carries tests) → FirstUncarried tests place
    to [] h = h
    to (test ∷ tests) (inl h) = inl (((carry_means test).refused place).0 h)
    to (test ∷ tests) (inr p) = inr ((each_means test).0 p.0, to tests p.1)

    from : (tests : List Carry) → FirstUncarried tests place → FirstRefused (why 11 place) (carries tests)
    from [] h = h
    from (test ∷ tests) (inl b) = inl (((carry_means test).refused place).1 b)
    from (test ∷ tests) (inr p) = inr ((each_means test).1 p.0, from tests p.1)

pub never_other : (k : ℕ) (tests : List Carry) → (11 ≡ k → ⊥) → Never k (carries tests)
never_other k [] d = tt
never_other k (test ∷ tests) d = (not_table (carry_means test) d, never_other k tests d)

abbrev pub elevens : List Carry → Group
elevens tests = record {
  number = 11;
  rows = carries tests;
  Fine = AllCarried tests;
  At = FirstUncarried tests;
  fine = all_carried tests;
  at = λ place. first_uncarried place tests;
  other = λ k d. never_other k tests d;
}
