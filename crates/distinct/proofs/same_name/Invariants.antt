-- `distinct::same_name` meets its contract. Assumes nothing.
use Rattle.distinct.proofs.Raw.{Alike}
use Rattle.distinct.proofs.same_name.Given as goal

abbrev pub invariant-loop-k : goal.invariant-loop-k
invariant-loop-k l = Alike l.text l.p l.from l.n l.k
