-- `set_weights::check_new` meets its contract: where 2 is not given, there is room. Assumes nothing.
use Rattle.set_weights.proofs.Laws.{long_enough}
use Rattle.set_weights.proofs.check_new.Goals as goal

pub check_numbers-requires : goal.check_numbers-requires
check_numbers-requires c = long_enough _ c.refuse_if-2.ensures c.in_ok-refuse_if-2.was
