-- The Rust's averaging counter is the whole number visits + 1. Assumes nothing.
use mathlib.Core.Path.{◌≡◌, refl, ap, ◌∙◌}
use Prim.Native.Nat.{zero, suc, ◌+◌}
use native.Mathlib.Omega.{arith}
use lib.Dec.{lit≤}
use lib.Ieee.{Float}
use Rattle.binary64.specs.Numbers.{whole}
use Rattle.training.specs.Rules.{◌⊕◌}
use Rattle.training.specs.Counter.{counter_after, CounterExact, CounterExactInTraining}
use Rattle.training.proofs.Whole.{whole_add}

pub counter_exact : CounterExact
unfolding counter_after
counter_exact zero h = refl
counter_exact (suc visits) h =
    let e : visits + 1 + 1 ≡ suc visits + 1 = omega arith in
    ap (λ (x : Float). x ⊕ whole 1) (counter_exact visits (omega arith)) ∙ whole_add (visits + 1) 1 (omega arith) (lit≤ tt) ∙ ap whole e

pub counter_exact_in_training : CounterExactInTraining
counter_exact_in_training visits h = counter_exact visits (omega (arith, h))
