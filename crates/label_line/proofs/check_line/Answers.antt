-- `label_line::check_line` meets its contract. Assumes nothing.
use mathlib.Core.Path.{refl, ◌∙◌, ap}
use Rattle.refusals.specs.Refusals.{refuse}
use Rattle.refusals.proofs.Laws.{handed, next_stops, next_goes}
use Rattle.label_line.proofs.Parted.{in_order}
use Rattle.label_line.proofs.check_line.Goals as goal

pub returns-in_err-check_bounds : goal.returns-in_err-check_bounds
returns-in_err-check_bounds c =
    in_order _ _ c.check_bounds.ensures refl refl refl refl refl (handed c.from_residual.ensures.1 ∙ next_stops _ c.in_err-check_bounds.was)

pub returns : goal.returns
returns c =
    in_order _ _ c.check_bounds.ensures c.check_weighted-model.ensures c.check_line-line.ensures c.sooner-tables.ensures (c.refuse_if-room.ensures ∙ ap (refuse 2 0) c.is_short.ensures) c.sooner.ensures (next_goes _ c.in_ok-check_bounds.was)
