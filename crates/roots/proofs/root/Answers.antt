-- `roots::root` meets its contract: the table's number at each count from 0 to 128 is computed, and passes the test of the nearest root.
-- Assumes nothing.
use Prim.Native.Nat.{ℕ, suc-le-suc}
use lib.Ieee.{Float, nan, of_bits, fits, size}
use lib.ListN.{get_or}
use Rattle.roots.specs.declared.TheConstants.{ROOTS}
use Rattle.binary64.specs.Units.{units_in_one}
use Rattle.roots.proofs.Nearest.{passes, passes_nearest}
use Rattle.roots.proofs.Each.{each_at}
use Rattle.roots.proofs.root.Goals as goal

-- the table's number at a count k
abbrev answer : ℕ → Float
answer k = get_or ROOTS k nan

pub returns : goal.returns
unfolding of_bits fits size units_in_one
returns c =
    let n = c.args.n in passes_nearest n (answer n) (each_at (λ (k : ℕ). passes k (answer k)) 129 tt n (suc-le-suc c.requires))
