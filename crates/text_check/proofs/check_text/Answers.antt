-- `text_check::check_text` meets its contract. Assumes nothing.
use Rattle.refusals.specs.Refusals.{or_next_of}
use Rattle.refusals.proofs.Laws.{handed}
use Rattle.text_check.proofs.Needed.{text_same}
use Rattle.text_check.proofs.check_text.Goals as goal

pub returns-in_err-refuse_if : goal.returns-in_err-refuse_if
unfolding or_next_of
returns-in_err-refuse_if c =
    λ bytes ss h g. rw (handed c.from_residual.ensures.1, ← text_same bytes ss _ c.args.have h g, ← c.exceeds_text.ensures, ← c.refuse_if.ensures, c.in_err-refuse_if.was)

pub returns-in_err-refuse_if-2 : goal.returns-in_err-refuse_if-2
unfolding or_next_of
returns-in_err-refuse_if-2 c =
    λ bytes ss h g. rw (handed c.from_residual-in_err-refuse_if-2.ensures.1, ← text_same bytes ss _ c.args.have h g, ← c.lacks_text.ensures, ← c.exceeds_text.ensures, ← c.refuse_if.ensures, c.in_ok-refuse_if.was, ← c.refuse_if-2.ensures, c.in_err-refuse_if-2.was)

pub returns : goal.returns
unfolding or_next_of
returns c =
    λ bytes ss h g. rw (c.check_long.ensures, ← text_same bytes ss _ c.args.have h g, ← c.lacks_text.ensures, ← c.exceeds_text.ensures, ← c.refuse_if.ensures, c.in_ok-refuse_if.was, ← c.refuse_if-2.ensures, c.in_ok-refuse_if-2.was)
