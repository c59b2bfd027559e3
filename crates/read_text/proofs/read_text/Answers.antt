-- `read_text::read_text` meets its contract. Assumes nothing.
use mathlib.Core.Path.{sym, ◌∙◌}
use Rattle.refusals.proofs.Laws.{handed}
use Rattle.text_check.proofs.Tells.{new_slots}
use Rattle.text_bytes.specs.Bytes.{Readable}
use Rattle.text_bytes.proofs.Told.{bytes_mean}
use Rattle.read_text.proofs.Kept.{bytes_refused, read_kept}
use Rattle.read_text.proofs.read_text.Goals.{In_ok-check_bytes}
use Rattle.read_text.proofs.read_text.Goals as goal

readable : (c : In_ok-check_bytes) → Readable c.args.text.now
readable c = (bytes_mean _).accepted (sym c.check_bytes.ensures ∙ c.in_ok-check_bytes.was)

pub returns-in_err-check_bytes : goal.returns-in_err-check_bytes
returns-in_err-check_bytes c =
    rw (handed c.from_residual.ensures.1) (bytes_refused _ _ _ (sym c.check_bytes.ensures ∙ c.in_err-check_bytes.was))

pub read_with-requires : goal.read_with-requires
read_with-requires c =
    (readable (goal.at.read_with-requires c).In_ok-check_bytes, record { long = new_slots.0; free = new_slots.1 })

pub returns : goal.returns
returns c =
    read_kept _ _ _ (readable (goal.at.returns c).In_ok-check_bytes).formed c.read_with.ensures
