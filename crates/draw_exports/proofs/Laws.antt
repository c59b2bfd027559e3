-- The bound of a shuffle, by the test that the code makes. Assumes nothing.
use Rattle.std.specs.Prelude.{Ok}
use mathlib.Core.Path.{◌≡◌}
use mathlib.Core.Bool.{true, false}
use Prim.Native.Nat.{ℕ, ◌<◌, ◌≤◌}
use native.Mathlib.Omega.{arith}
use borrow.Author.Tests.{ltb-false}
use lib.Dec.{ltb}
use Rattle.refusals.specs.Refusals.{refuse, refused_at}
use Rattle.refusals.specs.Bounds.{the_instances, most, outside_its}
use Rattle.refusals.proofs.Laws.{neither}
use Rattle.draw_exports.specs.Draws.{check}

pub refused_outside : (n : ℕ) → outside_its the_instances n ≡ true → check n ≡ refused_at 2 0
unfolding refuse
refused_outside n h = rw h

pub accepted_within : (n : ℕ) → outside_its the_instances n ≡ false → check n ≡ Ok tt
unfolding refuse
accepted_within n h = rw h

pub within : (n : ℕ) → outside_its the_instances n ≡ false → (0 < n) × (n ≤ most the_instances)
within n h =
    let w = neither (ltb n 1) (ltb (most the_instances) n) h in
    (omega (arith, ltb-false n 1 w.0), omega (arith, ltb-false (most the_instances) n w.1))
