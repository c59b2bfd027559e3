-- `labelling::label_at` meets its contract: the pass scores the line, and what is decoded is its scores. Assumes nothing.
use mathlib.Core.Path.{◌∙◌}
use native.Mathlib.Omega.{arith}
use Rattle.lines.specs.Lent.{with_states}
use Rattle.lines.specs.Entry.{line_of}
use Rattle.fronts.proofs.Filled.{all_of}
use Rattle.labelling.proofs.Laws.{ready, labelled_at}
use Rattle.labelling.proofs.label_at.Goals as goal

pub score_line-requires : goal.score_line-requires
score_line-requires c =
    record { sound_states = c.requires.sound_states; sound_lists = c.requires.sound_lists; sound_words = c.requires.sound_words; labels_in_bounds = omega (arith, c.requires.lent_tables) }

pub decode_scores-requires : goal.decode_scores-requires
decode_scores-requires c =
    ready c.requires.lent_tables (omega arith)

pub returns : goal.returns
returns c rest size =
    let a = c.args in
    let m = with_states rest a.labels a.features a.kinds.now a.destinations.now a.lists a.starts.now a.entries.now in
    labelled_at m a.weights.now (line_of size a.begins.now a.ids.now a.values.now) a.first
    (c.score_line.ensures rest size ∙ all_of _ _ _ c.requires.lent_tables.long_states) c.decode_scores.ensures
