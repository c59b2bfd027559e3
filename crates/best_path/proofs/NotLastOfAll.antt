-- The decoded path need not be the last of all best paths: over the scores of specs/NotLastOfAll another best path is later, its poorer prefix having caught up by rounding. Assumes nothing.
use mathlib.Core.Path.{◌≡◌, refl}
use mathlib.Core.Bool.{Bool, true, ◌&&◌}
use mathlib.Core.List.{List, [], ◌∷◌}
use Prim.Native.Nat.{ℕ, zero, suc, ◌≤◌, ◌<◌}
use native.Mathlib.Omega.{arith}
use lib.Dec.{T}
use lib.ListN.{length, get_or}
use lib.Ieee.{Float, nan, add, le}
use lib.Ieee.Fits.{and_l, and_r}
use lib.Ieee.Scale.{finite}
use Rattle.best_path.specs.Scores.{AllFinite, Allowed, label_at, extended, sum_through, sum_of}
use Rattle.best_path.specs.Decoded.{last_largest, best, back, path_to, last_label, decoded_path}
use Rattle.best_path.specs.BestPath.{NoneLarger}
use Rattle.best_path.specs.NotLastOfAll.{LastOfAll, DecodedIsLastOfAll, transitions, states, swallowing}
use Rattle.best_path.proofs.Demand3.{demand_3}
use Rattle.best_path.proofs.Laws.{tabled_finite}

-- ---- what is computed
decoded : decoded_path swallowing 3 ≡ 0 ∷ 1 ∷ 1 ∷ []
unfolding decoded_path last_label path_to back best last_largest extended add le
decoded = refl

same_sum : sum_of swallowing 3 (1 ∷ 1 ∷ 1 ∷ []) ≡ sum_of swallowing 3 (0 ∷ 1 ∷ 1 ∷ [])
unfolding sum_through extended add
same_sum = refl

-- ---- every score is finite
all_finite : List Float → Bool
all_finite [] = true
all_finite (x ∷ xs) = finite x && all_finite xs

each_finite : (xs : List Float) → T (all_finite xs) → (i : ℕ) → i < length xs → T (finite (get_or xs i nan))
unfolding all_finite
each_finite [] h i k = absurd (omega arith)
each_finite (x ∷ xs) h zero k = and_l (finite x) (all_finite xs) h
each_finite (x ∷ xs) h (suc i) k = each_finite xs (and_r (finite x) (all_finite xs) h) i (omega arith)

fine : AllFinite swallowing 3
unfolding all_finite
fine = tabled_finite 2 3 transitions states (each_finite transitions tt) (each_finite states tt)

-- ---- 1,1,1 is allowed, best and later
tie_allowed : Allowed swallowing 3 (1 ∷ 1 ∷ 1 ∷ [])
tie_allowed = record { long = refl; labels = below }
  where
    below : (word : ℕ) → word < 3 → label_at (1 ∷ 1 ∷ 1 ∷ []) word < 2
    below zero h = omega arith
    below (suc zero) h = omega arith
    below (suc (suc zero)) h = omega arith
    below (suc (suc (suc word))) h = absurd (omega arith)

tie_best : NoneLarger swallowing 3 (1 ∷ 1 ∷ 1 ∷ [])
tie_best q allowed = rw same_sum (rw decoded at ((demand_3 swallowing 3 (omega arith) (omega arith) fine).none_larger q allowed))

later_label : LastOfAll swallowing 3 (0 ∷ 1 ∷ 1 ∷ []) → ⊥
later_label claim = let h : 1 ≤ 0 = claim (1 ∷ 1 ∷ 1 ∷ []) tie_allowed tie_best 0 (omega arith) agree in omega arith
  where
    agree : (later : ℕ) → 0 < later → later < 3 → label_at (1 ∷ 1 ∷ 1 ∷ []) later ≡ label_at (0 ∷ 1 ∷ 1 ∷ []) later
    agree zero h k = absurd (omega arith)
    agree (suc later) h k = refl

pub not_last_of_all : DecodedIsLastOfAll → ⊥
not_last_of_all claim = later_label (rw decoded at (claim swallowing 3 (omega arith) (omega arith) fine))
