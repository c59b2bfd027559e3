-- `line_check::check_scoring` meets its contract. Assumes nothing.
use mathlib.Core.Path.{◌∙◌, ap}
use Rattle.refusals.specs.Refusals.{refuse}
use Rattle.line_check.proofs.Laws.{scoring_answered}
use Rattle.line_check.proofs.check_scoring.Goals as goal

pub returns : goal.returns
returns c =
    scoring_answered _ c.check_bounds.ensures c.check_weighted-model.ensures c.check_line-line.ensures c.sooner-tables.ensures (c.refuse_if-room.ensures ∙ ap (refuse 2 0) c.lacks_scores.ensures) c.sooner-scoring.ensures c.or_next.ensures
