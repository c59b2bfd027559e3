-- `feature_gen::check_weighted` meets its contract. Assumes nothing.
use Rattle.refusals.specs.Bounds.{weight_table}
use Rattle.feature_gen.proofs.Laws.{weighted_joined}
use Rattle.feature_gen.proofs.check_weighted.Goals as goal

pub returns : goal.returns
returns c =
    weighted_joined _ _ c.check_tables-tables.ensures (c.check_weights.ensures weight_table) c.sooner.ensures
