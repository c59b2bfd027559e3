use mathlib.Core.Path.{◌≡◌}
use Prim.Native.Nat.{◌≤◌}
use Rattle.training.specs.Wrong.{wrong_of}
use Rattle.judging.proofs.count_wrong.Given as goal

abbrev pub invariant-loop-word : goal.invariant-loop-word
invariant-loop-word l = (l.wrong ≤ l.word) × (l.wrong ≡ wrong_of l.path l.references l.word)
