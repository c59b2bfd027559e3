-- The averaging counter: the Rust's is a float that starts at 1.0 and is raised by 1.0 at every visit; the definitions of a visit say the whole number visits + 1. That the two are one is proved in proofs/Counter.
use Rattle.std.specs.Prelude.{◌≡◌, ℕ, zero, suc, ◌+◌, ◌*◌, ◌^◌, ◌≤◌, Float}
use Rattle.binary64.specs.Numbers.{whole}
use Rattle.refusals.specs.Bounds.{the_instances, the_epochs, most}
use Rattle.training.specs.Rules.{◌⊕◌}

-- the Rust's `c` and `update_counter` after so many visits: `let mut c = 1.0;`, `c += 1.0;`
unfoldable pub counter_after : ℕ → Float
counter_after zero = whole 1
counter_after (suc visits) = counter_after visits ⊕ whole 1

-- up to 2^53 visits
abbrev pub CounterExact : Type 0
CounterExact = (visits : ℕ) → visits ≤ 2 ^ 53 → counter_after visits ≡ whole (visits + 1)

-- "Epochs: 1 to 1,000", "Instances N: 1 to 16,384": a training makes no more visits than this
abbrev pub most_visits : ℕ
most_visits = most the_epochs * most the_instances

-- and so for all of a training
abbrev pub CounterExactInTraining : Type 0
CounterExactInTraining = (visits : ℕ) → visits ≤ most_visits → counter_after visits ≡ whole (visits + 1)
