-- `write_check::check_text` meets its contract. Assumes nothing.
use Rattle.write_check.proofs.Laws.{measurable, labels_stand, names_stand, scales_stand}
use Rattle.write_check.proofs.check_text.Goals as goal

pub written_length-need-requires : goal.written_length-need-requires
written_length-need-requires c =
    measurable c.requires

pub check_names-requires : goal.check_names-requires
check_names-requires c =
    labels_stand c.requires

pub check_names-requires-2 : goal.check_names-requires-2
check_names-requires-2 c =
    names_stand c.requires

pub check_scales-requires : goal.check_scales-requires
check_scales-requires c =
    scales_stand c.requires
