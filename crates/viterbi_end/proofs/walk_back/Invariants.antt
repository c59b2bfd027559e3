-- `walk_back` meets its contract. The loop's invariant: what is still to be walked, with what is written after it, is the whole path with the rest of the buffer. Assumes nothing.
use mathlib.Core.Path.{◌≡◌}
use mathlib.Core.List.{◌++◌}
use Prim.Native.Nat.{◌+◌, ◌-◌, ◌<◌}
use lib.ListN.{drop}
use Rattle.viterbi_end.specs.Walked.{walked}
use Rattle.viterbi_end.proofs.walk_back.Given as goal

abbrev pub invariant-loop-word : goal.invariant-loop-word
invariant-loop-word l =
    (0 < l.word)
    × (l.label < l.n)
    × (walked l.steps l.n (l.word - 1) l.label ++ drop (l.word - 1 + 1) l.path ≡ walked l.steps l.n (l.words - 1) l.last ++ drop l.words l.initial.path)
