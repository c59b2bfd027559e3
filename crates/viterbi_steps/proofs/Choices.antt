-- Laws that the decoder's inner loops lean on: places in flat tables, and the tie rule over a running choice. Assumes nothing.
use mathlib.Core.Path.{◌≡◌, sym}
use mathlib.Core.Bool.{cond}
use Prim.Native.Nat.{ℕ, ◌+◌, ◌-◌, ◌*◌, ◌≤◌, ◌<◌}
use native.Mathlib.Nat.{mul-le-mul, suc-mul}
use native.Mathlib.Numerals.{add-one}
use lib.Ieee.{Float, le}
use Rattle.refusals.specs.Bounds.{the_labels, most}
use Rattle.best_path.specs.Decoded.{last_largest}
use Rattle.best_path.proofs.Laws.{largest_turn, value_turn}

-- a table of at most 32 rows and columns, 32·32 entries
pub square_small : (n : ℕ) → n ≤ most the_labels → n * n ≤ 1024
square_small n h = mul-le-mul h h

-- the row after row k starts where that ends
pub row_after : (k n : ℕ) → (k + 1) * n ≡ k * n + n
row_after k n = rw (add-one k) (suc-mul k n)

-- one candidate more, under the tie rule: the score and where it comes from stay those of the last of the largest
module _ (g : ℕ → Float) (count : ℕ) (any : 0 < count) (score new : Float) (from : ℕ) (known : score ≡ g (last_largest g (count - 1))) (at : new ≡ g count) where
  pub score_more : cond (le score new) new score ≡ g (last_largest g (count + 1 - 1))
  score_more = rw (known, at) (sym (value_turn g count any))

  pub from_more : from ≡ last_largest g (count - 1) → cond (le score new) count from ≡ last_largest g (count + 1 - 1)
  from_more e = rw (known, at, e) (sym (largest_turn g count any))
