-- `scales::value_of` meets its contract. Assumes nothing.
use Rattle.scales.proofs.Gathered.{begins, bounded, ends}
use Rattle.scales.proofs.value_of.Goals as goal

pub loop-b-init : goal.loop-b-init
loop-b-init c = begins _ c.requires

pub quotient-requires : goal.quotient-requires
quotient-requires c = bounded _ _ _ c.loop-b.invariant

pub returns : goal.returns
returns c =
    ends _ _ _ c.loop-b.invariant c.loop-b-test.false _ c.quotient.ensures c.requires
