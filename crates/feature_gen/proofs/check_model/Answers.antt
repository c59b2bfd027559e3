-- `feature_gen::check_model` meets its contract. Assumes nothing.
use mathlib.Core.Path.{refl, ap, ◌∙◌}
use Rattle.refusals.specs.Said.{said_of}
use Rattle.refusals.proofs.Laws.{handed, next_stops, next_goes}
use Rattle.feature_gen.specs.CheckModel.{answer_to}
use Rattle.feature_gen.proofs.Laws.{model_answered}
use Rattle.feature_gen.proofs.check_model.Goals as goal

pub returns-in_err-check_labels : goal.returns-in_err-check_labels
unfolding answer_to
returns-in_err-check_labels c =
    record { answers = ap said_of (model_answered _ _ c.check_labels.ensures refl (handed c.from_residual.ensures.1 ∙ next_stops _ c.in_err-check_labels.was)) }

pub returns : goal.returns
unfolding answer_to
returns c =
    record { answers = ap said_of (model_answered _ _ c.check_labels.ensures c.check_weighted.ensures (next_goes _ c.in_ok-check_labels.was)) }
