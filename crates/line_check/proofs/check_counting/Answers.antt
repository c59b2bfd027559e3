-- `line_check::check_counting` meets its contract. Assumes nothing.
use mathlib.Core.Path.{◌∙◌, ap}
use Rattle.refusals.specs.Refusals.{refuse}
use Rattle.line_check.proofs.Laws.{counting_answered}
use Rattle.line_check.proofs.check_counting.Goals as goal

pub returns : goal.returns
returns c =
    counting_answered _ c.check_bounds.ensures c.check_tables-model.ensures c.check_line-line.ensures c.sooner-tables.ensures c.check_labels.ensures c.sooner-labelled.ensures (c.refuse_if-room.ensures ∙ ap (refuse 2 0) c.is_short-short.ensures) c.sooner-counting.ensures c.or_next.ensures
