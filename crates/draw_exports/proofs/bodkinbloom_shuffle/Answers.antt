-- `draw_exports::bodkinbloom_shuffle` meets its contract. Assumes nothing.
use lib.ListN.{length}
use Rattle.draw_exports.proofs.Laws.{refused_outside, accepted_within}
use Rattle.draw_exports.proofs.bodkinbloom_shuffle.Goals as goal

pub returns-then-n : goal.returns-then-n
returns-then-n c =
    let e = refused_outside (length c.args.order.now) c.if-n.true in
    record { answers = rw e; deals = rw e }

pub returns : goal.returns
returns c =
    let e = accepted_within (length c.args.order.now) c.if-n.false in
    record { answers = rw e; deals = rw e c.shuffle-next.ensures }
