-- Finite weights after an update tell that the counts are finite. Assumes nothing.
use mathlib.Core.Path.{◌≡◌, refl, ap, ◌∙◌}
use mathlib.Core.Bool.{Bool, true, false, cond, ◌&&◌, beq}
use mathlib.Core.Logic.{◌⊎◌, inl, inr}
use mathlib.Core.List.{List, [], ◌∷◌}
use Prim.Native.Nat.{ℕ, zero, suc, ◌<◌}
use native.Mathlib.Nat.{zero-add, not-suc-le-zero, eq-or-lt_of_le, le_of_suc-le-suc}
use native.Mathlib.Omega.{arith}
use lib.Dec.{T, eqb}
use lib.ListN.{get_or}
use lib.Seq.{get_or-set_other}
use lib.Ieee.{Float, nan, inf, fin, binary64, neg, add, sub, mul}
use lib.Ieee.Fits.{and_i, and_l, and_r}
use lib.Ieee.Bits.{is_true}
use lib.Ieee.Scale.{finite}
use Rattle.lines.specs.Passes.{through, raised}
use Rattle.fronts.specs.Finite.{all_finite_of}
use Rattle.training.specs.Rules.{perceptron, passive, arow, Learned, difference, pushed, pulled, narrowed, by_perceptron, by_passive, by_arow, updated_by, ◌⊗◌}
use Rattle.training.specs.FiniteCounts.{WeightsTellCounts}

-- ---- a sum, a difference and a product that are finite are of finite numbers
none_finite : (b : Bool) (x y : Float) → (T (finite x) → ⊥) → (T (finite y) → ⊥) → T (finite (cond b x y)) → ⊥
none_finite true x y p q t = p t
none_finite false x y p q t = q t

sum_tells : (x y : Float) → T (finite (add binary64 x y)) → T (finite x) × T (finite y)
unfolding add
sum_tells nan y t = absurd t
sum_tells (inf s) nan t = absurd t
sum_tells (inf s) (inf u) t = absurd (none_finite (beq s u) (inf s) nan (λ p. p) (λ p. p) t)
sum_tells (inf s) (fin u n g) t = absurd t
sum_tells (fin s m e) nan t = absurd t
sum_tells (fin s m e) (inf u) t = absurd t
sum_tells (fin s m e) (fin u n g) t = (tt, tt)

neg_tells : (y : Float) → T (finite (neg y)) → T (finite y)
unfolding neg
neg_tells nan t = t
neg_tells (inf u) t = t
neg_tells (fin u n g) t = t

difference_tells : (x y : Float) → T (finite (sub binary64 x y)) → T (finite x) × T (finite y)
unfolding sub
difference_tells x y t =
    let p = sum_tells x (neg y) t in
    (p.0, neg_tells y p.1)

product_tells : (x y : Float) → T (finite (mul binary64 x y)) → T (finite x) × T (finite y)
unfolding mul
product_tells nan y t = absurd t
product_tells (inf s) nan t = absurd t
product_tells (inf s) (inf u) t = absurd t
product_tells (inf s) (fin u n g) t = absurd (none_finite (eqb n 0) nan _ (λ p. p) (λ p. p) t)
product_tells (fin s m e) nan t = absurd t
product_tells (fin s m e) (inf u) t = absurd (none_finite (eqb m 0) nan _ (λ p. p) (λ p. p) t)
product_tells (fin s m e) (fin u n g) t = (tt, tt)

-- ---- a place that was raised to a finite number was raised by one; past the end a read is a NaN
raised_tells : (w : List Float) (i : ℕ) (v : Float) → T (finite (get_or (raised w i v) i nan)) → T (finite v)
unfolding raised
raised_tells [] i v t = absurd t
raised_tells (x ∷ w) zero v t = (sum_tells x v t).1
raised_tells (x ∷ w) (suc i) v t = raised_tells w i v t

-- and no other place is touched
raised_other : (w : List Float) (n i : ℕ) (v : Float) → i < n → get_or (raised w n v) i nan ≡ get_or w i nan
unfolding raised
raised_other w n i v h =
    let other : i ≡ n → ⊥ = λ e. omega arith in
    get_or-set_other w n i _ nan other

-- ---- a table tells of another what each of its entries tells
table_tells : (w u : List Float) (n : ℕ) → ((i : ℕ) → i < n → T (finite (get_or w i nan)) → T (finite (get_or u i nan))) → T (all_finite_of w n) → T (all_finite_of u n)
unfolding all_finite_of
table_tells w u zero c t = tt
table_tells w u (suc n) c t =
    let before = table_tells w u n (λ i h. c i (omega arith)) (and_l (all_finite_of w n) (finite (get_or w n nan)) t) in
    let here = c n (omega arith) (and_r (all_finite_of w n) (finite (get_or w n nan)) t) in
    and_i (all_finite_of u n) (finite (get_or u n nan)) before here

-- ---- a pass that raises each weight in turn, by what is finite only where the counts of its feature are
record Raises (truly predicted : List Float) (step : ℕ → Learned → Learned) : Type 0 where
  by : ℕ → Learned → Float
  raises : (i : ℕ) (s : Learned) → (step i s).weights ≡ raised s.weights i (by i s)
  tells : (i : ℕ) (s : Learned) → T (finite (by i s)) → T (finite (difference truly predicted i))

module _ (truly predicted : List Float) (step : ℕ → Learned → Learned) (r : Raises truly predicted step) (s : Learned) where
  turn : (n : ℕ) → (through step 0 (suc n) s).weights ≡ raised (through step 0 n s).weights n (r.by n (through step 0 n s))
  unfolding through
  turn n = ap (λ (k : ℕ). (step k (through step 0 n s)).weights) (zero-add n) ∙ r.raises n (through step 0 n s)

  place_tells : (n i : ℕ) → i < n → T (finite (get_or (through step 0 n s).weights i nan)) → T (finite (difference truly predicted i))
  place_tells zero i h t = absurd (not-suc-le-zero h)
  place_tells (suc n) i h t = go (eq-or-lt_of_le (le_of_suc-le-suc h)) (place_tells n i) (rw (turn n) at t)
    where
      before : Learned
      before = through step 0 n s

      go : (i ≡ n) ⊎ (i < n) → (i < n → T (finite (get_or before.weights i nan)) → T (finite (difference truly predicted i))) →
          T (finite (get_or (raised before.weights n (r.by n before)) i nan)) → T (finite (difference truly predicted i))
      go (inl e) f u = rw e (r.tells n before (raised_tells before.weights n _ (rw e at u)))
      go (inr l) f u = f l (rw (raised_other before.weights n i (r.by n before) l) at u)

  counts_told : (n : ℕ) → all_finite_of (through step 0 n s).weights n ≡ true → all_finite_of truly n && all_finite_of predicted n ≡ true
  counts_told n e =
      let after = (through step 0 n s).weights in
      let t : T (all_finite_of after n) = rw e tt in
      is_true _
      (and_i (all_finite_of truly n) (all_finite_of predicted n)
      (table_tells after truly n (λ i h p. (difference_tells _ _ (place_tells n i h p)).0) t)
      (table_tells after predicted n (λ i h p. (difference_tells _ _ (place_tells n i h p)).1) t))

-- ---- the three updates
module _ (truly predicted : List Float) where
  pushed_raises : (weight counter : Float) → Raises truly predicted (pushed truly predicted weight counter)
  unfolding pushed
  pushed_raises weight counter = record {
    by = λ i s. difference truly predicted i ⊗ weight;
    raises = λ i s. refl;
    tells = λ i s t. (product_tells _ _ t).0;
  }

  pulled_raises : (averaging : Bool) (tau counter : Float) → Raises truly predicted (pulled truly predicted averaging tau counter)
  unfolding pulled
  pulled_raises averaging tau counter = record {
    by = λ i s. tau ⊗ difference truly predicted i;
    raises = λ i s. refl;
    tells = λ i s t. (product_tells _ _ t).1;
  }

  narrowed_raises : (weight gamma alpha : Float) → Raises truly predicted (narrowed truly predicted weight gamma alpha)
  unfolding narrowed
  narrowed_raises weight gamma alpha = record {
    by = λ i s. (alpha ⊗ get_or s.beside i nan) ⊗ (difference truly predicted i ⊗ weight);
    raises = λ i s. refl;
    tells = λ i s t. (product_tells _ _ (product_tells _ _ t).1).0;
  }

pub weights_tell_counts : WeightsTellCounts
unfolding updated_by by_perceptron by_passive by_arow
weights_tell_counts perceptron features k s e = counts_told k.truly k.predicted _ (pushed_raises k.truly k.predicted _ _) s features e
weights_tell_counts (passive variant c sensitive averaging) features k s e = counts_told k.truly k.predicted _ (pulled_raises k.truly k.predicted averaging _ _) s features e
weights_tell_counts (arow variance gamma) features k s e = counts_told k.truly k.predicted _ (narrowed_raises k.truly k.predicted _ gamma _) s features e
