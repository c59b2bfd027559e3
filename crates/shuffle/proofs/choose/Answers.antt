-- `shuffle::choose` meets its contract. Assumes nothing.
use mathlib.Core.Path.{refl}
use Rattle.shuffle.specs.Shuffle.{chosen}
use Rattle.shuffle.proofs.choose.Goals as goal

pub returns : goal.returns
unfolding chosen
returns c = refl
