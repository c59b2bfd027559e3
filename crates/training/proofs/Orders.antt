-- Every epoch's order is 0 to N − 1, rearranged, since a shuffle permutes. Assumes nothing.
use mathlib.Core.Path.{◌≡◌, refl, ap, ◌∙◌}
use mathlib.Core.Bool.{Bool, true, false, cond}
use mathlib.Core.List.{List, [], ◌∷◌}
use Prim.Native.Nat.{ℕ, zero, suc, ◌+◌, ◌<◌}
use native.Mathlib.Nat.{not-suc-le-zero}
use native.Mathlib.Omega.{arith}
use borrow.Author.Tests.{eqb-true, eq-eqb}
use lib.Dec.{eqb}
use lib.ListN.{length, get_or, take}
use lib.Seq.{length-take-le, take_all, get_or-take}
use lib.Ieee.{Float}
use Rattle.shuffle.specs.Shuffle.{Deal, shuffled_from, shuffled}
use Rattle.shuffle.specs.Permutation.{times, FrontPermuted}
use Rattle.shuffle.proofs.Permutes.{shuffle_permutes}
use Rattle.lines.specs.Passes.{through}
use Rattle.lines.specs.Tables.{Model}
use Rattle.lines.specs.Data.{Data}
use Rattle.training.specs.Rules.{Rule, stops}
use Rattle.training.specs.Visits.{TrainingState, visited}
use Rattle.training.specs.Epochs.{Settings, Run, counted_from, up_to, epoch, epoch_unless_over, begun}
use Rattle.training.specs.Orders.{OrderOf, PlacesBelow, OrdersKept, ran_for}

-- ---- 0 to n − 1
length_counted : (i n : ℕ) → length (counted_from i n) ≡ n
unfolding counted_from
length_counted i zero = refl
length_counted i (suc n) = ap suc (length_counted (suc i) n)

-- what stands there is below its end
counted_below : (x i n : ℕ) → 0 < times x (counted_from i n) → x < i + n
unfolding counted_from times
counted_below x i zero h = absurd (not-suc-le-zero h)
counted_below x i (suc n) h = go (eqb x i) (eqb-true x i) (counted_below x (suc i) n) h
  where
    go : (b : Bool) → (b ≡ true → x ≡ i) → (0 < times x (counted_from (suc i) n) → x < suc i + n) → 0 < cond b 1 0 + times x (counted_from (suc i) n) → x < i + suc n
    go true e r k = omega (arith, e refl)
    go false e r k = omega (arith, r (omega arith))

-- what stands in a list stands there at least once
stands : (xs : List ℕ) (j : ℕ) → j < length xs → 0 < times (get_or xs j 0) xs
unfolding times
stands [] j h = absurd (not-suc-le-zero h)
stands (x ∷ xs) zero h = rw (eq-eqb x x refl) (omega arith)
stands (x ∷ xs) (suc j) h = omega (arith, stands xs j (omega arith))

pub order_first : (n : ℕ) → OrderOf n (up_to n)
order_first n =
    let l : length (up_to n) ≡ n = length_counted _ n in
    record { long = omega arith; front = λ x. ap (times x) (take_all n (up_to n) (omega arith)) }

pub places_below : PlacesBelow
places_below n order o j h =
    let l : length (take n order) ≡ n = length-take-le n order o.long in
    let k : 0 < times (get_or order j 0) (up_to n) = rw (get_or-take n order j 0, o.front (get_or order j 0)) at (stands (take n order) j (omega arith)) in
    omega (arith, counted_below (get_or order j 0) _ n k)

pub shuffle_keeps : (n : ℕ) (d : Deal) → OrderOf n d.order → OrderOf n (shuffled n d).order
unfolding shuffled shuffled_from
shuffle_keeps zero d o = o
shuffle_keeps (suc n) d o =
    let p : FrontPermuted (suc n) d.order (shuffled (suc n) d).order = shuffle_permutes (suc n) d (omega arith) o.long in
    record { long = omega (arith, p.long, o.long); front = λ x. p.front x ∙ o.front x }

shuffle_long : (n : ℕ) (d : Deal) → length d.order ≡ n → length (shuffled n d).order ≡ n
unfolding shuffled shuffled_from
shuffle_long zero d l = l
shuffle_long (suc n) d l = (shuffle_permutes (suc n) d (omega arith) (omega arith)).long ∙ l

-- ---- what every shuffle keeps holds from epoch to epoch
module _ (visit : ℕ → TrainingState → TrainingState) (stop : Float → Bool) (instances : ℕ) (P : List ℕ → Type 0) (keeps : (d : Deal) → P d.order → P (shuffled instances d).order) where
  unless_keeps : (e : ℕ) (r : Run) → P r.deal.order → P (epoch_unless_over visit stop instances e r).deal.order
  unfolding epoch_unless_over epoch
  unless_keeps e r o = go r.over
    where
      go : (b : Bool) → P (cond b r (epoch visit stop instances r)).deal.order
      go true = o
      go false = keeps r.deal o

  pub run_keeps : (e : ℕ) (r : Run) → P r.deal.order → P (through (epoch_unless_over visit stop instances) 0 e r).deal.order
  unfolding through
  run_keeps zero r o = o
  run_keeps (suc e) r o = unless_keeps (0 + e) (through (epoch_unless_over visit stop instances) 0 e r) (run_keeps e r o)

pub orders_kept : (rule : Rule) (set : Settings) (m : Model) (d : Data) → OrdersKept rule set m d
unfolding begun
orders_kept rule set m d =
    let n = d.instances in
    let keeps = run_keeps (visited rule m d) (stops rule set.epsilon) n in
    let left : (e : ℕ) → OrderOf n (ran_for rule set m d e).deal.order = λ e. keeps (OrderOf n) (shuffle_keeps n) e (begun rule set m d) (order_first n) in
    record {
      dealt = λ e. shuffle_keeps n (ran_for rule set m d e).deal (left e);
      left = left;
      no_more = λ e. keeps (λ order. length order ≡ n) (shuffle_long n) e (begun rule set m d) (length_counted _ n);
    }
