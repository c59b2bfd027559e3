-- `write_check::check_written` meets its contract. Assumes nothing.
use mathlib.Core.Path.{sym, ◌∙◌}
use Rattle.refusals.proofs.Laws.{handed}
use Rattle.write_check.proofs.Laws.{size_stopped, read_stopped, lists_last, text_last, write_fits, write_sound}
use Rattle.write_check.proofs.check_written.Goals as goal

pub returns-in_err-written_sizes : goal.returns-in_err-written_sizes
returns-in_err-written_sizes c =
    handed c.from_residual.ensures.1 ∙ size_stopped _ _ _ (sym c.written_sizes.ensures ∙ c.in_err-written_sizes.was)

pub check_lists-requires : goal.check_lists-requires
check_lists-requires c =
    write_fits _ _ c.written_sizes.ensures c.in_ok-written_sizes.was

pub returns-in_err-check_lists : goal.returns-in_err-check_lists
returns-in_err-check_lists c =
    handed c.from_residual-in_err-check_lists.ensures.1 ∙ read_stopped _ _ _ (sym (lists_last _ c.written_sizes.ensures c.in_ok-written_sizes.was c.check_lists.ensures) ∙ c.in_err-check_lists.was)

pub check_text-requires : goal.check_text-requires
check_text-requires c =
    write_sound _ _ (lists_last _ c.written_sizes.ensures c.in_ok-written_sizes.was c.check_lists.ensures) c.in_ok-check_lists.was

pub returns : goal.returns
returns c =
    text_last _ _ (lists_last _ c.written_sizes.ensures c.in_ok-written_sizes.was c.check_lists.ensures) c.in_ok-check_lists.was c.check_text.ensures
