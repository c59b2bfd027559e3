-- `scales::quotient` meets its contract. Assumes nothing.
use Rattle.std.proofs.Common.{ap, ◌∙◌}
use lib.Ieee.{neg}
use Rattle.scales.proofs.Laws.{tenths, negated}
use Rattle.scales.proofs.quotient.Goals as goal

pub returns-then-minus : goal.returns-then-minus
returns-then-minus c =
    rw (c.nearest_u64_to_f64.ensures, c.nearest_u64_to_f64-2.ensures, c.tens-parts.ensures, c.if-minus.true)
    (ap neg (tenths _ _ c.requires.0 c.requires.1) ∙ negated _ _)

pub returns-else-minus : goal.returns-else-minus
returns-else-minus c =
    rw (c.nearest_u64_to_f64.ensures, c.nearest_u64_to_f64-2.ensures, c.tens-parts.ensures, c.if-minus.false)
    (tenths _ _ c.requires.0 c.requires.1)
