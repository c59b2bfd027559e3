-- `label_line::label_in` meets its contract: an accepted line meets what scoring and labelling it require. Assumes nothing.
use mathlib.Core.Path.{◌∙◌}
use native.Mathlib.Omega.{arith}
use Rattle.lines.specs.Entry.{line_of}
use Rattle.feature_gen.specs.Lent.{model_of}
use Rattle.fronts.proofs.Filled.{all_of}
use Rattle.finished.proofs.Laws.{from_first}
use Rattle.labelling.proofs.Laws.{labelled_by}
use Rattle.compute_scores.specs.Promise.{Given}
use Rattle.label_line.proofs.label_in.Goals.{Start}
use Rattle.label_line.proofs.label_in.Goals as goal

-- what the call is given
abbrev given : Start → Given
given c =
    let a = c.args in
    record {
      model = model_of a.labels a.counts a.kinds.now a.destinations.now a.sources.now a.attribute_starts.now a.attribute_entries.now a.label_starts.now a.label_entries.now;
      weights = a.weights.now;
      words = a.words;
      line = line_of a.attributes a.begins.now a.ids.now a.values.now;
    }

pub score_transitions-requires : goal.score_transitions-requires
score_transitions-requires c =
    let m = c.requires.fact.model in
    record { sound_transitions = m.transitions; sound_lists = m.sound.label_lists; labels_in_bounds = omega (arith, c.requires.transitions_len) }

pub label_at-requires : goal.label_at-requires
label_at-requires c =
    let g = c.requires.fact in record {
      sound_states = g.model.transitions.states;
      sound_lists = g.model.sound.attribute_lists;
      sound_words = from_first _ _ _ _ g.line.words;
      lent_tables = record {
        labels_in = g.model.sound.labels_in;
        words_in_lem = g.line.words_in_lem;
        long_transitions = omega (arith, c.score_transitions.auto.transitions, c.requires.transitions_len);
        long_states = c.requires.transitions_len.1;
        long_path = g.long_path;
      };
    }

pub returns : goal.returns
returns c =
    let g = given (goal.at.returns c).Start in
    labelled_by g.model g.weights g.line 0 (c.score_transitions.ensures g.model ∙ all_of _ _ _ c.requires.transitions_len.0) (c.label_at.ensures g.model c.args.attributes)
