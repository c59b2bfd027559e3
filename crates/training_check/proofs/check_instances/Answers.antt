-- `training_check::check_instances` meets its contract: where the sizes are accepted, the starts have room for their tests. Assumes nothing.
use Rattle.training_check.proofs.Laws.{instances_room}
use Rattle.training_check.proofs.check_instances.Goals as goal

pub check_starts-requires : goal.check_starts-requires
check_starts-requires c = instances_room _ _ _ c.check_sizes.ensures c.in_ok-check_sizes.was

pub check_lengths-requires : goal.check_lengths-requires
check_lengths-requires c = instances_room _ _ _ c.check_sizes.ensures c.in_ok-check_sizes.was
