-- `arow::update` meets its contract. Assumes nothing.
use Rattle.arow.proofs.Parts.{by_arow_lem}
use Rattle.arow.proofs.update.Goals as goal

pub returns : goal.returns
returns c =
    λ variance words counter. record {
      update = by_arow_lem _ _ _ _ _ c.cost_of-cost.ensures c.spread_of.ensures c.narrow-all.ensures.learned;
      finite = c.narrow-all.ensures.finite;
    }
