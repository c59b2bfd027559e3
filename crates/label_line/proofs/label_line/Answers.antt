-- `label_line::label_line` keeps its promise. Assumes nothing.
use Rattle.std.specs.Prelude.{Ok, Err}
use mathlib.Core.Path.{◌≡◌, sym, ◌∙◌}
use native.Mathlib.Omega.{arith}
use Rattle.lines.specs.Entry.{line_of}
use Rattle.feature_gen.specs.Lent.{model_of}
use Rattle.labelling.proofs.Laws.{few_transitions, few_states, small_is}
use Rattle.compute_scores.specs.Promise.{Given}
use Rattle.label_line.specs.Promise.{checked_of, SoundLabelling}
use Rattle.label_line.proofs.Kept.{refused_kept, sound, labelled_kept}
use Rattle.label_line.proofs.label_line.Goals.{In_default}
use Rattle.label_line.proofs.label_line.Goals as goal

-- what an accepted call is given
abbrev given : In_default → Given
given c =
    let a = c.args in
    record {
      model = model_of a.labels a.counts a.kinds.now a.destinations.now a.sources.now a.attribute_starts.now a.attribute_entries.now a.label_starts.now a.label_entries.now;
      weights = a.weights.now;
      words = a.words;
      line = line_of a.attributes a.begins.now a.ids.now a.values.now;
    }

accepted : (c : In_default) → checked_of (given c) c.args.path.now ≡ Ok tt
accepted c = sym c.check_line-checked.ensures ∙ c.in_default.is

-- its tables are sound
fine : (c : In_default) → SoundLabelling (given c) c.args.path.now
fine c = sound (given c) _ (accepted c)

pub returns-in-Err : goal.returns-in-Err
returns-in-Err c =
    refused_kept _ _ _ (sym c.check_line-checked.ensures ∙ c.in-Err.is)

pub is_small-requires : goal.is_small-requires
is_small-requires c =
    let g = fine (goal.at.is_small-requires c).In_default in
    (g.model.sound.labels_in, g.line.words_in_lem)

pub label_within-requires : goal.label_within-requires
label_within-requires c =
    record { fact = fine (goal.at.label_within-requires c).In_default; labels_bound = small_is _ _ c.is_small.ensures c.if-is_small.true; sizes_bound = omega arith }

pub label_within-requires-else-is_small : goal.label_within-requires-else-is_small
label_within-requires-else-is_small c =
    let g = fine (goal.at.label_within-requires-else-is_small c).In_default in
    record { fact = g; labels_bound = (few_transitions g.model.sound.labels_in, few_states g.model.sound.labels_in g.line.words_in_lem); sizes_bound = omega arith }

pub returns-then-is_small : goal.returns-then-is_small
returns-then-is_small c =
    let at = (goal.at.returns-then-is_small c).In_default in
    labelled_kept (given at) _ (accepted at) _ c.label_within.ensures

pub returns-else-is_small : goal.returns-else-is_small
returns-else-is_small c =
    let at = (goal.at.returns-else-is_small c).In_default in
    labelled_kept (given at) _ (accepted at) _ c.label_within-else-is_small.ensures
