-- `distinct::home_of` meets its contract. Assumes nothing.
use Rattle.pieces.proofs.Parts.{slice_lent}
use Rattle.distinct.proofs.Loops.{hash_on, hash_ends}
use Rattle.distinct.proofs.home_of.Goals as goal

pub loop-b-preserved : goal.loop-b-preserved
loop-b-preserved c = hash_on _ _ _ _ c.loop-b.invariant c.loop-b-test.true c.hash_byte-h.ensures

pub returns : goal.returns
returns c = rw slice_lent (hash_ends _ _ _ _ c.loop-b.invariant c.loop-b-test.false)
