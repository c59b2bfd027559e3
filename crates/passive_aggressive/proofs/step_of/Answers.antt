-- `passive_aggressive::step_of` meets its contract. Assumes nothing.
use native.Mathlib.Omega.{arith}
use lib.Ieee.{of_bits, of_int}
use Rattle.passive_aggressive.proofs.Steps.{step_pa, step_pa_i, step_pa_ii}
use Rattle.passive_aggressive.proofs.step_of.Goals as goal

pub returns-then-variant-eq0 : goal.returns-then-variant-eq0
returns-then-variant-eq0 c = step_pa _ _ _ _ (omega arith)

pub returns-then-variant-eq1 : goal.returns-then-variant-eq1
returns-then-variant-eq1 c = step_pa_i _ _ _ _ (omega arith) c.min.ensures

pub returns : goal.returns
unfolding of_bits of_int
returns c = step_pa_ii _ _ _ _ (λ e. omega arith) (λ e. omega arith)
