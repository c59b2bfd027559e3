-- What is claimed of the order of visits: in every epoch each of the N instances has its turn, once. The proof is in proofs/Orders.
use Rattle.std.specs.Prelude.{◌≡◌, List, ℕ, ◌≤◌, ◌<◌, length, get_or, take}
use Rattle.shuffle.specs.Permutation.{Permutation}
use Rattle.shuffle.specs.Shuffle.{shuffled}
use Rattle.lines.specs.Passes.{through}
use Rattle.lines.specs.Tables.{Model}
use Rattle.lines.specs.Data.{Data}
use Rattle.training.specs.Rules.{Rule, stops}
use Rattle.training.specs.Visits.{visited}
use Rattle.training.specs.Epochs.{Settings, Run, up_to, epoch_unless_over, begun}

-- the first n of an order are 0 to n − 1, rearranged
pub record OrderOf (n : ℕ) (order : List ℕ) : Type 0 where
  pub long : n ≤ length order
  pub front : Permutation (take n order) (up_to n)

-- and so each of them is below n
abbrev pub PlacesBelow : Type 0
PlacesBelow = (n : ℕ) (order : List ℕ) → OrderOf n order → (j : ℕ) → j < n → get_or order j 0 < n

module _ (rule : Rule) (set : Settings) (m : Model) (d : Data) where
  -- the run after the first e epochs allowed
  abbrev pub ran_for : ℕ → Run
  ran_for e = through (epoch_unless_over (visited rule m d) (stops rule set.epsilon) d.instances) 0 e (begun rule set m d)

-- the order that each epoch's visits go by, and the one that it leaves: no instance is left out, and none comes twice
pub record OrdersKept (rule : Rule) (set : Settings) (m : Model) (d : Data) : Type 0 where
  pub dealt : (e : ℕ) → OrderOf d.instances (shuffled d.instances (ran_for rule set m d e).deal).order
  pub left : (e : ℕ) → OrderOf d.instances (ran_for rule set m d e).deal.order
  pub no_more : (e : ℕ) → length (ran_for rule set m d e).deal.order ≡ d.instances
