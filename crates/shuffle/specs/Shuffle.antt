-- The shuffle of an epoch's order, from document 01's paragraph on training. Assumes nothing.
use Rattle.std.specs.Prelude.{List, ℕ, zero, suc, ◌+◌, ◌-◌, ◌%◌, get_or, set}
use Rattle.generator.specs.Draw.{next, number}

-- the draw rule: "draw mod (i+1)"
unfoldable pub chosen : ℕ → ℕ → ℕ
chosen drawn i = drawn % (i + 1)

-- two places of an order change their contents
unfoldable pub swapped : List ℕ → ℕ → ℕ → List ℕ
swapped order i j = set (set order i (get_or order j 0)) j (get_or order i 0)

-- the generator's state, and an order of the instances
pub record Deal : Type 0 where
  pub state : ℕ
  pub order : List ℕ

-- "swap i with draw mod (i+1)", one draw
unfoldable pub swapped_at : ℕ → Deal → Deal
swapped_at i d = record {
  state = next d.state;
  order = swapped d.order i (chosen (number d.state) i);
}

-- i, i − 1, .., 1
unfoldable pub shuffled_from : ℕ → Deal → Deal
shuffled_from zero d = d
shuffled_from (suc i) d = shuffled_from i (swapped_at (suc i) d)

-- "For i from N−1 down to 1": the first n of an order; "with N = 1 nothing is drawn"
unfoldable pub shuffled : ℕ → Deal → Deal
shuffled n d = shuffled_from (n - 1) d
