-- `set_weights::set_weights` meets its contract: refused, the table is as it was; accepted, its front is the new weights. Assumes nothing.
use Rattle.refusals.proofs.Laws.{handed}
use Rattle.set_weights.proofs.Laws.{room_for_new, kept, filled}
use Rattle.set_weights.proofs.set_weights.Goals as goal

pub returns-in_err-check_new : goal.returns-in_err-check_new
returns-in_err-check_new c = rw (handed c.from_residual.ensures.1) (kept _ _ _ _ c.check_new.ensures c.in_err-check_new.was)

pub copy_front-requires : goal.copy_front-requires
copy_front-requires c =
    let made = room_for_new _ _ _ c.check_new.ensures c.in_ok-check_new.was in record { n_in_bounds = made.0; n_in_bounds_2 = made.1 }

pub returns : goal.returns
returns c = filled _ _ _ _ c.check_new.ensures c.in_ok-check_new.was c.copy_front.ensures
