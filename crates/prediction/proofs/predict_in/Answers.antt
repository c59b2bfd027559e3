-- `prediction::predict_in` meets its contract: the line is labelled by its scores, and what is judged is its labels. Assumes nothing.
use mathlib.Core.Path.{◌∙◌}
use native.Mathlib.Omega.{arith}
use Rattle.lines.specs.Tables.{Model, Words}
use Rattle.fronts.proofs.Filled.{all_of}
use Rattle.labelling.proofs.Laws.{labelled_in}
use Rattle.prediction.specs.Tables.{training_model_of, words_from}
use Rattle.prediction.proofs.Laws.{transitions_sound, judged_as}
use Rattle.prediction.proofs.predict_in.Goals.{Start}
use Rattle.prediction.proofs.predict_in.Goals as goal

-- the model and the words that the arguments make
abbrev model : Start → Model
model c =
    let a = c.args in
    training_model_of a.sizes a.kinds.now a.destinations.now a.sources.now a.starts.now a.entries.now a.label_starts.now a.label_entries.now

abbrev line : Start → Words
line c = words_from c.args.sizes c.args.begins.now c.args.ids.now c.args.values.now

pub score_transitions-requires : goal.score_transitions-requires
score_transitions-requires c =
    let m = c.requires.sound_model in
    record { sound_transitions = transitions_sound m _ (omega (arith, c.requires)); sound_lists = m.label_lists; labels_in_bounds = omega (arith, c.requires) }

pub label_at-answer-requires : goal.label_at-answer-requires
label_at-answer-requires c =
    let m = c.requires.sound_model in
    let line = c.requires.sound_instance in record {
      sound_states = (transitions_sound m c.args.weights.now (omega (arith, c.requires))).states;
      sound_lists = m.attribute_lists;
      sound_words = line.worded;
      lent_tables = record {
        labels_in = m.labels_in;
        words_in_lem = line.sized;
        long_transitions = omega (arith, c.score_transitions.auto, c.requires);
        long_states = c.requires.transitions_len.1;
        long_path = omega (arith, c.requires.weights_len);
      };
    }

pub judge-requires : goal.judge-requires
judge-requires c =
    record {
      labels_in = c.requires.sound_model.labels_in;
      words_in_lem = c.requires.sound_instance.sized;
      referenced = c.requires.sound_instance.referenced;
      below = c.requires.sound_instance.below;
      long_transitions = omega (arith, c.score_transitions.auto, c.requires);
      long_states = omega (arith, c.label_at-answer.auto, c.requires);
      before = c.args.path.now;
      long_before = c.requires.weights_len.1;
      labelled = labelled_in (model (goal.at.judge-requires c).Start) c.args.weights.now (line (goal.at.judge-requires c).Start) c.args.first (c.label_at-answer.ensures (model (goal.at.judge-requires c).Start) c.args.sizes.attributes);
    }

pub returns : goal.returns
returns c =
    judged_as (model (goal.at.returns c).Start) c.args.weights.now (line (goal.at.returns c).Start) c.args.first (c.score_transitions.ensures (model (goal.at.returns c).Start) ∙ all_of _ _ _ c.requires.transitions_len.0) (c.label_at-answer.ensures (model (goal.at.returns c).Start) c.args.sizes.attributes).scored c.judge.ensures
