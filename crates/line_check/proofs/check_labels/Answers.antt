-- `line_check::check_labels` meets its contract: where 2 is not given, there is room. Assumes nothing.
use mathlib.Core.Path.{◌∙◌, ap}
use Rattle.refusals.specs.Refusals.{refuse}
use Rattle.line_check.proofs.Laws.{labels_room}
use Rattle.line_check.proofs.check_labels.Goals as goal

pub check_ids-requires : goal.check_ids-requires
check_ids-requires c = labels_room c.args.labels c.args.words c.args.path.now (c.refuse_if.ensures ∙ ap (refuse 2 0) c.is_short.ensures) c.in_ok-refuse_if.was
