-- `compute_scores::score_line` meets its contract. The loop's invariant: the words before this one are scored. Assumes nothing.
use Prim.Native.Nat.{◌<◌, ◌+◌}
use native.Mathlib.Omega.{arith}
use lib.Ieee.{of_bits}
use Rattle.lines.specs.Scored.{scored_at}
use Rattle.lines.proofs.Laws.{through_none, through_next}
use Rattle.lines.proofs.Fronts.{row_room}
use Rattle.compute_scores.proofs.StateTurns.{word_turn, line_end}
use Rattle.compute_scores.proofs.score_line.Goals as goal

pub loop-word-init : goal.loop-word-init
loop-word-init c = through_none _ _ _

pub score_word-requires : goal.score_word-requires
score_word-requires c =
    let h = c.loop-word-test.true in
    let i : c.args.first + c.loop-word.word < c.args.first + c.args.words = omega arith in record { sound_states = c.requires.sound_states; sound_lists = c.requires.sound_lists; to_in_bounds = omega (arith, c.at-to.ensures, c.requires.sound_words.within _ i); to_in_bounds_2 = omega (arith, c.at-to.ensures, c.requires.sound_words.valued _ i); labels_in_bounds = row_room _ _ _ _ h (omega (arith, c.requires.labels_in_bounds, c.fill.auto)) }

pub loop-word-preserved : goal.loop-word-preserved
unfolding scored_at
loop-word-preserved c =
    through_next _ _ _ c.loop-word.invariant (word_turn _ _ _ _ _ _ _ _ c.at-from.ensures c.at-to.ensures c.score_word.ensures)

pub returns : goal.returns
unfolding of_bits
returns c =
    λ rest size.
    line_end _ _ _ _ _ _ _ c.requires.sound_states c.requires.sound_lists c.loop-word.auto.word-end c.loop-word-test.false c.fill.ensures c.loop-word.invariant
