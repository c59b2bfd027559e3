-- `extract_features::count_line` meets its contract: both loops in the front of the buffer. Assumes nothing.
use native.Mathlib.Omega.{arith}
use lib.Ieee.{of_bits}
use Rattle.extract_features.proofs.Turns.{line_end}
use Rattle.extract_features.proofs.count_line.Goals as goal

pub count_words-requires : goal.count_words-requires
count_words-requires c =
    let p = c.requires in
    record { sound_counts = p.sound_counts; sound_lists = p.sound_lists; sound_words = p.sound_words; words_in_bounds = p.words_in_bounds; features_in_bounds = omega arith }

pub count_transitions-requires : goal.count_transitions-requires
count_transitions-requires c =
    let p = c.requires in
    record { sound_counts = p.sound_counts; features_in_bounds = p.features_in_bounds; sound_lists = p.sound_lists_2; words_in_bounds = p.words_in_bounds; features_in_bounds_2 = omega arith }

pub returns : goal.returns
unfolding of_bits
returns c =
    λ rest size.
    let p = c.requires in
    line_end _ _ _ _ _ _ p.sound_lists p.sound_lists_2 c.fill.ensures c.count_words.ensures c.count_transitions.ensures
