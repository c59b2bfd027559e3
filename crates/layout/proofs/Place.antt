-- The place of 11 means what the request says. Assumes nothing.
use Rattle.std.specs.Prelude.{Ok, Err, Result}
use mathlib.Core.Path.{◌≡◌, refl, sym, ap, subst, ◌∙◌}
use mathlib.Core.Bool.{Bool, true, false, cond, true≢false, false≢true}
use mathlib.Core.List.{[], ◌∷◌, ◌++◌}
use mathlib.Core.Logic.{◌⊎◌, inl, inr, ⊎_elim}
use Prim.Native.Nat.{ℕ, zero, suc, ◌+◌, ◌≤◌, ◌<◌}
use native.Mathlib.Omega.{arith}
use native.Mathlib.Numerals.{add-one}
use lib.Dec.{ltb}
use lib.ListN.{length, take}
use borrow.Author.Tests.{ltb-true, ltb-false}
use Rattle.layout.specs.declared.Mode.{Mode}
use Rattle.layout.specs.declared.Mode.TheVariants.{Begin, Inside, Slashed, Field, Value, Digits, Bad}
use Rattle.layout.specs.Layout.{Bytes, WellFormed}
use Rattle.layout.specs.Scan.{class_of, next_mode_of, mode_after, accepting, alive, look_from, look, Completable, PlaceOf, WholeMeant, PlaceMeant}
use Rattle.layout.proofs.Read.{well_accepted, accepted_well}

run_append : (t r : Bytes) (q : Mode) → mode_after q (t ++ r) ≡ mode_after (mode_after q t) r
unfolding mode_after
run_append [] r q = refl
run_append (b ∷ t) r q = run_append t r (next_mode_of q (class_of b))

bad_stays : (t : Bytes) → mode_after Bad t ≡ Bad
unfolding mode_after
bad_stays [] = refl
bad_stays (b ∷ t) = bad_stays t

dead_bad : (q : Mode) → alive q ≡ false → q ≡ Bad
dead_bad Begin e = absurd (true≢false e)
dead_bad (Inside k) e = absurd (true≢false e)
dead_bad (Slashed k) e = absurd (true≢false e)
dead_bad Field e = absurd (true≢false e)
dead_bad Value e = absurd (true≢false e)
dead_bad (Digits d p) e = absurd (true≢false e)
dead_bad Bad e = refl

-- "by nothing, `:`, `1` or `a`"
completed : (q : Mode) → alive q ≡ true → (r : Bytes) × (accepting (mode_after q r) ≡ true)
unfolding mode_after class_of
completed Begin e = ([], refl)
completed (Inside k) e = ([], refl)
completed (Slashed k) e = (58 ∷ [], refl)
completed Field e = (97 ∷ [], refl)
completed Value e = (49 ∷ [], refl)
completed (Digits zero p) e = (49 ∷ [], refl)
completed (Digits (suc d) p) e = ([], refl)
completed Bad e = absurd (false≢true e)

pub alive_completable : (t : Bytes) → alive (mode_after Begin t) ≡ true → Completable t
alive_completable t e =
    let r = completed (mode_after Begin t) e in
    (r.0, accepted_well (t ++ r.0) (rw (run_append t r.0 Begin) r.1))

dead_not : (t : Bytes) → alive (mode_after Begin t) ≡ false → Completable t → ⊥
dead_not t e c =
    false≢true (sym (ap accepting (run_append t c.0 Begin ∙ ap (λ (q : Mode). mode_after q c.0) (dead_bad (mode_after Begin t) e) ∙ bad_stays c.0)) ∙ well_accepted (t ++ c.0) c.1)

-- what the look finds, from any mode on
record Stuck (q : Mode) (t : Bytes) (n : ℕ) : Type 0 where
  inside : n ≤ length t
  dead : n < length t → alive (mode_after q (take (suc n) t)) ≡ false
  fronts : (m : ℕ) → m ≤ n → alive (mode_after q (take m t)) ≡ true
  refused : accepting (mode_after q t) ≡ false

data Seen (q : Mode) (t : Bytes) (i : ℕ) (f : Result (Unit {0}) ℕ) : Type 0 where
  whole : f ≡ Ok tt → accepting (mode_after q t) ≡ true → Seen q t i f
  stuck : (n : ℕ) → f ≡ Err (i + n) → Stuck q t n → Seen q t i f

refused_dead : (q : Mode) (t : Bytes) → alive q ≡ false → accepting (mode_after q t) ≡ false
refused_dead q t e = ap (λ (z : Mode). accepting (mode_after z t)) (dead_bad q e) ∙ ap accepting (bad_stays t)

seen : (t : Bytes) (q : Mode) (i : ℕ) → alive q ≡ true → Seen q t i (look_from q t i)
unfolding look_from mode_after
seen [] q i e = go (accepting q) refl
  where
    go : (x : Bool) → accepting q ≡ x → Seen q [] i (cond x (Ok tt) (Err i))
    go true a = whole refl a
    go false a = stuck 0 (ap Err (omega arith)) (record { inside = omega arith; dead = λ h. absurd (omega (arith, h)); fronts = λ m h. first m h; refused = a })
      where
        first : (m : ℕ) → m ≤ 0 → alive (mode_after q (take m [])) ≡ true
        first zero h = e
        first (suc m) h = e
seen (b ∷ t) q i e = go (alive (next_mode_of q (class_of b))) refl (seen t (next_mode_of q (class_of b)) (i + 1))
  where
    go : (x : Bool) → alive (next_mode_of q (class_of b)) ≡ x → (alive (next_mode_of q (class_of b)) ≡ true → Seen (next_mode_of q (class_of b)) t (i + 1) (look_from (next_mode_of q (class_of b)) t (i + 1)))
        → Seen q (b ∷ t) i (cond x (look_from (next_mode_of q (class_of b)) t (i + 1)) (Err i))
    go false a rest = stuck 0 (ap Err (omega arith)) (record { inside = omega arith; dead = λ h. a; fronts = λ m h. first m h; refused = refused_dead (next_mode_of q (class_of b)) t a })
      where
        first : (m : ℕ) → m ≤ 0 → alive (mode_after q (take m (b ∷ t))) ≡ true
        first zero h = e
        first (suc m) h = absurd (omega (arith, h))
    go true a rest = onward (rest a)
      where
        onward : Seen (next_mode_of q (class_of b)) t (i + 1) (look_from (next_mode_of q (class_of b)) t (i + 1)) → Seen q (b ∷ t) i (look_from (next_mode_of q (class_of b)) t (i + 1))
        onward (whole f g) = whole f g
        onward (stuck n f g) = stuck (suc n) (f ∙ ap Err (omega arith)) (record {
          inside = omega (arith, g.inside);
          dead = λ h. g.dead (omega (arith, h));
          fronts = λ m h. later m h;
          refused = g.refused;
        })
          where
            later : (m : ℕ) → m ≤ suc n → alive (mode_after q (take m (b ∷ t))) ≡ true
            later zero h = e
            later (suc m) h = g.fronts m (omega (arith, h))

at_inj : (n m : ℕ) → ◌≡◌ {A = Result (Unit {0}) ℕ} (Err n) (Err m) → n ≡ m
at_inj n m e = cc

whole_not_at : (n : ℕ) → ◌≡◌ {A = Result (Unit {0}) ℕ} (Ok tt) (Err n) → ⊥
whole_not_at n e = cc

looked : (t : Bytes) → ((look t ≡ Ok tt) × WellFormed t) ⊎ ((p : ℕ) × (look t ≡ Err p) × PlaceOf t p)
unfolding look
looked t = go (seen t Begin 0 refl)
  where
    go : Seen Begin t 0 (look_from Begin t 0) → ((look t ≡ Ok tt) × WellFormed t) ⊎ ((p : ℕ) × (look t ≡ Err p) × PlaceOf t p)
    go (whole f g) = inl (f, accepted_well t g)
    go (stuck n f g) = inr (
      n,
      f ∙ ap Err (omega arith),
      record {
        malformed = λ w. false≢true (sym g.refused ∙ well_accepted t w);
        inside = g.inside;
        dead = λ h c. dead_not (take (suc n) t) (g.dead h) (rw (add-one n) at c);
        fronts = λ m h. alive_completable (take m t) (g.fronts m h);
      },
    )

one_place : (t : Bytes) (p r : ℕ) → PlaceOf t p → PlaceOf t r → p < r → ⊥
one_place t p r g h lt = g.dead (omega (arith, lt, h.inside)) (h.fronts (p + 1) (omega (arith, lt)))

same_place : (t : Bytes) (p r : ℕ) → PlaceOf t p → PlaceOf t r → p ≡ r
same_place t p r g h = go (ltb p r) refl (ltb r p) refl
  where
    go : (x : Bool) → ltb p r ≡ x → (y : Bool) → ltb r p ≡ y → p ≡ r
    go true e y f = absurd (one_place t p r g h (ltb-true p r e))
    go false e true f = absurd (one_place t r p h g (ltb-true r p f))
    go false e false f = let a : r ≤ p = ltb-false p r e in let b : p ≤ r = ltb-false r p f in omega (arith, a, b)

pub whole_meant : WholeMeant
whole_meant t = (
  λ e. ⊎_elim (λ w. w.1) (λ w. absurd (whole_not_at w.0 (sym e ∙ w.1))) (looked t),
  λ g. ⊎_elim (λ w. w.0) (λ w. absurd (w.2.malformed g)) (looked t),
)

pub place_meant : PlaceMeant
place_meant t p = (
  λ e. ⊎_elim (λ w. absurd (whole_not_at p (sym w.0 ∙ e))) (λ w. subst (PlaceOf t) (at_inj w.0 p (sym w.1 ∙ e)) w.2) (looked t),
  λ g. ⊎_elim (λ w. absurd (g.malformed w.1)) (λ w. w.1 ∙ ap Err (same_place t w.0 p w.2 g)) (looked t),
)
