-- `finish` meets its contract. Assumes nothing.
use Prim.Native.Nat.{◌<◌}
use native.Mathlib.Omega.{arith}
use Rattle.refusals.specs.Bounds.{the_labels, most}
use Rattle.viterbi_end.proofs.Laws.{ended}
use Rattle.viterbi_end.proofs.finish.Goals.{After-last_largest-last}
use Rattle.viterbi_end.proofs.finish.Goals as goal

-- the last label is within the row
last_within : (c : After-last_largest-last) → c.last_largest-last.result < most the_labels
last_within c = omega (arith, c.last_largest-last.ensures.0, c.requires.few)

pub walk_back-requires : goal.walk_back-requires
walk_back-requires c =
    record { walk = c.requires; last_lt_n = c.last_largest-last.ensures.0 }

pub offset_bounds-row-last : goal.offset_bounds-row-last
offset_bounds-row-last c =
    omega (arith, last_within (goal.at.offset_bounds-row-last c).After-last_largest-last)

pub bounds-row-last : goal.bounds-row-last
bounds-row-last c =
    last_within (goal.at.bounds-row-last c).After-last_largest-last

pub lead_of-requires : goal.lead_of-requires
lead_of-requires c =
    (c.last_largest-last.ensures.0, c.requires.few)

pub returns : goal.returns
returns c =
    ended c.last_largest-last.ensures.1 c.lead_of.ensures c.walk_back.ensures
