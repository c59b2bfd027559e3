-- `read_text::text_sizes` meets its contract. Assumes nothing.
use mathlib.Core.Path.{sym, ◌∙◌}
use Rattle.refusals.proofs.Laws.{handed}
use Rattle.text_bytes.specs.Bytes.{Readable}
use Rattle.text_bytes.proofs.Told.{bytes_mean}
use Rattle.read_text.proofs.Kept.{sizes_refused, sizes_kept}
use Rattle.read_text.proofs.text_sizes.Goals.{In_ok-check_bytes}
use Rattle.read_text.proofs.text_sizes.Goals as goal

readable : (c : In_ok-check_bytes) → Readable c.args.text.now
readable c = (bytes_mean _).accepted (sym c.check_bytes.ensures ∙ c.in_ok-check_bytes.was)

pub returns-in_err-check_bytes : goal.returns-in_err-check_bytes
returns-in_err-check_bytes c =
    rw (handed c.from_residual.ensures.1) (sizes_refused _ _ (sym c.check_bytes.ensures ∙ c.in_err-check_bytes.was))

pub sizes_readable-requires : goal.sizes_readable-requires
sizes_readable-requires c =
    readable (goal.at.sizes_readable-requires c).In_ok-check_bytes

pub returns : goal.returns
returns c =
    sizes_kept _ _ (readable (goal.at.returns c).In_ok-check_bytes).formed c.sizes_readable.ensures
