-- `feature_gen::check_weights` meets its contract: where 2 is not given, there is room. Assumes nothing.
use mathlib.Core.Path.{◌∙◌, ap}
use Rattle.refusals.specs.Refusals.{refuse}
use Rattle.refusals.specs.Bounds.{weight_table}
use Rattle.feature_gen.proofs.Laws.{weights_sized}
use Rattle.feature_gen.proofs.check_weights.Goals as goal

pub check_numbers-requires : goal.check_numbers-requires
check_numbers-requires c =
    weights_sized weight_table c.args.count c.args.weights.now (c.refuse_if.ensures ∙ ap (refuse 2 0) c.is_short.ensures) c.in_ok-refuse_if.was
