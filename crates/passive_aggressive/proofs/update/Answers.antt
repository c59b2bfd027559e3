-- `passive_aggressive::update` meets its contract. Assumes nothing.
use Rattle.passive_aggressive.proofs.Parts.{by_passive_lem}
use Rattle.passive_aggressive.proofs.update.Goals as goal

pub returns : goal.returns
returns c =
    λ words. record {
      update = by_passive_lem _ _ _ _ _ _ _ c.cost_of-cost.ensures c.norm-norm.ensures c.tau_of-tau.ensures c.pull-all.ensures.learned;
      finite = c.pull-all.ensures.finite;
    }
