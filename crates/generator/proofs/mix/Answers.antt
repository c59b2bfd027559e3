-- `generator::mix` meets its contract: the two products' equations, one inside the other. Assumes nothing.
use Rattle.std.proofs.Common.{ℕ, ap, ◌∙◌}
use Rattle.generator.specs.SplitMix64.{folded, wrapped}
use Rattle.generator.proofs.mix.Goals as goal

pub returns : goal.returns
returns c =
    ap (folded 31)
    (c.wrapping_mul-b.ensures ∙ ap (λ (a : ℕ). wrapped (folded 27 a) 0x94D049BB133111EB) c.wrapping_mul-a.ensures)
