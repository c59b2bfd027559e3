-- `shuffle::swap` meets its contract. Assumes nothing.
use mathlib.Core.Path.{refl}
use Rattle.shuffle.specs.Shuffle.{swapped}
use Rattle.shuffle.proofs.swap.Goals as goal

pub returns : goal.returns
unfolding swapped
returns c = refl
