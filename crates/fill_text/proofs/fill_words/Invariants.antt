-- `fill_text::fill_words` meets its contract. Assumes nothing.
use Prim.Native.Nat.{◌+◌, ◌-◌}
use lib.ListN.{length}
use Rattle.fill_text.proofs.WordsOn.{WordsGoing}
use Rattle.fill_text.proofs.fill_words.Given as goal

abbrev pub invariant-loop-cursor : goal.invariant-loop-cursor
invariant-loop-cursor l =
    WordsGoing l.text l.initial.line_starts l.initial.word_starts l.initial.references l.line_starts l.word_starts l.references l.cursor l.so_far

abbrev pub decreases-loop-cursor : goal.decreases-loop-cursor
decreases-loop-cursor l =
    length l.text + 1 - l.cursor.at
