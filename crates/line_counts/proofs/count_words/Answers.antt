-- `line_counts::count_words` meets its contract. The loop's invariant: once the notes are added, the words before this one have counted. Assumes nothing.
use Prim.Native.Nat.{zero-le}
use mathlib.Core.Path.{sym, ◌∙◌}
use native.Mathlib.Omega.{arith}
use Rattle.lines.specs.Counted.{counted_at}
use Rattle.lines.proofs.Laws.{through_none, through_next}
use Rattle.line_counts.proofs.Notes.{settled_none}
use Rattle.line_counts.proofs.StateTurns.{word_turn}
use Rattle.line_counts.proofs.count_words.Goals as goal

pub loop-word-init : goal.loop-word-init
loop-word-init c = (
  record {
    notes = record { there = zero-le; level = omega arith; ids = λ j l. omega (arith, l) };
    free = omega arith;
  },
  sym (settled_none _ _ _ _) ∙ through_none _ _ _,
)

pub loop-word-preserved : goal.loop-word-preserved
unfolding counted_at
loop-word-preserved c =
    let i = c.loop-word.invariant in
    let q = c.count_word-noted.ensures in (
      record { notes = q.notes_2; free = q.upper_bound },
      through_next _ _ _ i.1 (word_turn _ _ _ _ _ _ _ _ c.at-from.ensures c.at-to.ensures q.counts_value),
    )
