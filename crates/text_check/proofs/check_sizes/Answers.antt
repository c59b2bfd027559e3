-- `text_check::check_sizes` meets its contract. Assumes nothing.
use Rattle.refusals.specs.Refusals.{or_next_of}
use Rattle.refusals.proofs.Laws.{handed}
use Rattle.text_check.proofs.Needed.{sized_same}
use Rattle.text_check.proofs.check_sizes.Goals as goal

pub returns-in_err-refuse_if : goal.returns-in_err-refuse_if
unfolding or_next_of
returns-in_err-refuse_if c =
    λ bytes ss h g. rw (handed c.from_residual.ensures.1, ← sized_same bytes ss _ h g, ← c.exceeds_text.ensures, ← c.refuse_if.ensures, c.in_err-refuse_if.was)

pub returns : goal.returns
unfolding or_next_of
returns c =
    λ bytes ss h g. rw (c.check_long.ensures, ← sized_same bytes ss _ h g, ← c.exceeds_text.ensures, ← c.refuse_if.ensures, c.in_ok-refuse_if.was)
