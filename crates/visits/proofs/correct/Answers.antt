-- `visits::correct` meets its contract: the two passes count, and the update is the definition's on their counts. Assumes nothing.
use mathlib.Core.Path.{sym, ◌∙◌}
use native.Mathlib.Nat.{le_of_eq}
use native.Mathlib.Omega.{arith}
use borrow.Author.Rules.{rules}
use Rattle.lines.specs.Tables.{Model}
use Rattle.prediction.specs.Tables.{training_model_of}
use Rattle.fronts.proofs.Filled.{all_of}
use Rattle.visits.proofs.Laws.{settled_as}
use Rattle.visits.proofs.correct.Goals.{Start}
use Rattle.visits.proofs.correct.Goals as goal

-- the model that the arguments make
abbrev model : Start → Model
model c =
    let a = c.args in
    training_model_of a.sizes a.kinds.now a.destinations.now a.sources.now a.starts.now a.entries.now a.label_starts.now a.label_entries.now

pub count_line-requires : goal.count_line-requires
count_line-requires c =
    let m = c.requires.model in
    record { sound_counts = m.counts; features_in_bounds = m.sized.sources; sound_lists = m.attribute_lists; sound_lists_2 = m.label_lists; sound_words = c.requires.line.worded; words_in_bounds = le_of_eq (sym c.requires.line.referenced); features_in_bounds_2 = le_of_eq (sym c.requires.exact.truly_long) }

pub count_line-requires-2 : goal.count_line-requires-2
count_line-requires-2 c =
    let m = c.requires.model in
    record { sound_counts = m.counts; features_in_bounds = m.sized.sources; sound_lists = m.attribute_lists; sound_lists_2 = m.label_lists; sound_words = c.requires.line.worded; words_in_bounds = le_of_eq (sym c.requires.path_long); features_in_bounds_2 = le_of_eq (sym c.requires.exact.predicted_long) }

pub overflow_cast-words : goal.overflow_cast-words
overflow_cast-words c =
    omega (arith, c.requires.line.sized.high)

pub learn-requires : goal.learn-requires
learn-requires c =
    let e = c.requires.exact in record {
      wrong_bound = (
        c.requires.few,
        record {
          truly_long = omega (arith, c.count_line.auto, e);
          predicted_long = omega (arith, c.count_line-2.auto, e);
          weights_long = omega (arith, e);
          beside_long = omega (arith, e);
        },
      );
      visits_bound = (c.requires.visits, c.requires.updates);
    }

pub returns : goal.returns
returns c =
    let e = c.requires.exact in
    let made = c.learn.ensures in
    record { fact = settled_as _ _ _ _ (c.count_line.ensures (model (goal.at.returns c).Start) c.args.sizes.attributes ∙ all_of _ _ _ e.truly_long) (c.count_line-2.ensures (model (goal.at.returns c).Start) c.args.sizes.attributes ∙ all_of _ _ _ e.predicted_long) made.fact; visit_counted = made.visit_counted }
