-- `scales::one_more` meets its contract. Assumes nothing.
use Rattle.scales.proofs.one_more.Goals as goal

pub returns-then-point : goal.returns-then-point
returns-then-point c = simp c.if-point.true
