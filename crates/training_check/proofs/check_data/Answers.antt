-- `training_check::check_data` meets its contract. Assumes nothing.
use Rattle.refusals.specs.Bounds.{instance_weight_table}
use Rattle.training_check.proofs.Laws.{data_joined}
use Rattle.training_check.proofs.check_data.Goals as goal

pub returns : goal.returns
returns c =
    data_joined _ _ c.check_instances-instances.ensures c.check_line-line.ensures c.sooner-words.ensures c.check_labels-labelled.ensures c.sooner-both.ensures (c.check_weights.ensures instance_weight_table) c.sooner.ensures
