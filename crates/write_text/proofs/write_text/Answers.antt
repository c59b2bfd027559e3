-- `write_text::write_text` meets its contract. Assumes nothing.
use mathlib.Core.Path.{sym, ◌∙◌}
use Rattle.refusals.proofs.Laws.{handed}
use Rattle.write_check.specs.Rows.{Unchecked, unchecked_of}
use Rattle.write_text.proofs.Kept.{accepted_by, stands, room, written_kept, refused_kept}
use Rattle.write_text.proofs.write_text.Goals.{Start}
use Rattle.write_text.proofs.write_text.Goals as goal

-- what the call is given
abbrev given : Start → Unchecked
given c =
    let a = c.args in
    unchecked_of a.labels a.totals a.names a.lines.now a.begins.now a.ids.now a.references.now a.label_name_starts.now a.label_names.now a.attribute_name_starts.now a.attribute_names.now a.scale_starts.now a.scales.now

pub returns-in_err-checked : goal.returns-in_err-checked
returns-in_err-checked c =
    rw (handed c.from_residual.ensures.1) (refused_kept _ _ _ (sym c.check_written-checked.ensures ∙ c.in_err-checked.was))

pub put_sequences-end-requires : goal.put_sequences-end-requires
put_sequences-end-requires c =
    let g = given (goal.at.put_sequences-end-requires c).Start in
    let h = accepted_by g c.args.text.now c.check_written-checked.ensures c.in_ok-checked.was in
    record { by_index = stands g c.args.text.now h; fact = room g c.args.text.now h }

pub returns : goal.returns
returns c =
    let g = given (goal.at.returns c).Start in
    let h = accepted_by g c.args.text.now c.check_written-checked.ensures c.in_ok-checked.was in
    written_kept g c.args.text.now h _ _ c.put_sequences-end.ensures
