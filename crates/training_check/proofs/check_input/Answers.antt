-- `training_check::check_input` meets its contract. Assumes nothing.
use mathlib.Core.Path.{refl, ◌∙◌}
use Rattle.refusals.proofs.Laws.{handed, next_stops, next_goes}
use Rattle.training_check.proofs.Laws.{input_answered}
use Rattle.training_check.proofs.check_input.Goals as goal

pub returns-in_err-check_labels : goal.returns-in_err-check_labels
returns-in_err-check_labels c =
    input_answered _ c.check_labels.ensures refl refl refl refl refl (handed c.from_residual.ensures.1 ∙ next_stops _ c.in_err-check_labels.was)

pub returns : goal.returns
returns c =
    input_answered _ c.check_labels.ensures c.check_tables-tables.ensures c.check_data-data.ensures c.sooner-both.ensures c.check_lent-room.ensures c.sooner.ensures (next_goes _ c.in_ok-check_labels.was)
