-- `extract_features::extract_features` keeps its promise. Assumes nothing.
use Rattle.std.specs.Prelude.{Ok, Err}
use mathlib.Core.Path.{◌≡◌, sym, ◌∙◌}
use native.Mathlib.Omega.{arith}
use Rattle.feature_gen.specs.Lent.{model_of}
use Rattle.line_check.specs.Sound.{SoundCounting}
use Rattle.line_check.proofs.Meant.{counting_sound}
use Rattle.finished.proofs.Laws.{from_first}
use Rattle.extract_features.specs.Promise.{Given, counting_of, checked_of}
use Rattle.extract_features.proofs.Kept.{refused_kept, made_kept}
use mathlib.Core.List.{List}
use lib.Ieee.{Float}
use Rattle.refusals.specs.Refusals.{Checked}
use Rattle.extract_features.proofs.extract_features.Goals as goal

-- an accepted call has sound tables
sound : (given : Given) (lent : List Float) {checked : Checked} → checked ≡ checked_of given lent → checked ≡ Ok tt → SoundCounting (counting_of given lent)
sound given lent e h = counting_sound (counting_of given lent) (sym e ∙ h)

pub returns-in-Err : goal.returns-in-Err
returns-in-Err c =
    refused_kept _ _ _ (sym c.check_counting.ensures ∙ c.in-Err.is) c.refuse_counts.ensures.value c.refuse_counts.ensures.counts_unchanged

pub count_line-requires : goal.count_line-requires
count_line-requires c =
    let a = c.args in
    let given : Given = record {
      model = model_of a.labels a.counts a.kinds.now a.destinations.now a.sources.now a.attribute_starts.now a.attribute_entries.now a.label_starts.now a.label_entries.now;
      words = a.words;
      line = record { starts = a.begins.now; size = a.attributes; ids = a.ids.now; values = a.values.now };
      path = a.path.now;
    } in
    let s = sound given a.amounts.now c.check_counting.ensures c.in_default.is in
    record { sound_counts = s.model.counts; features_in_bounds = s.model.sized.sources; sound_lists = s.model.attribute_lists; sound_lists_2 = s.model.label_lists; sound_words = from_first _ _ _ _ s.line.words; words_in_bounds = s.fits.path; features_in_bounds_2 = s.fits.features }

pub finish_counts-finished-requires : goal.finish_counts-finished-requires
finish_counts-finished-requires c =
    let a = c.args in
    let given : Given = record {
      model = model_of a.labels a.counts a.kinds.now a.destinations.now a.sources.now a.attribute_starts.now a.attribute_entries.now a.label_starts.now a.label_entries.now;
      words = a.words;
      line = record { starts = a.begins.now; size = a.attributes; ids = a.ids.now; values = a.values.now };
      path = a.path.now;
    } in
    omega (arith, c.count_line.auto.counts, (sound given a.amounts.now c.check_counting.ensures c.in_default.is).fits.features)

pub returns : goal.returns
returns c =
    let a = c.args in
    let given : Given = record {
      model = model_of a.labels a.counts a.kinds.now a.destinations.now a.sources.now a.attribute_starts.now a.attribute_entries.now a.label_starts.now a.label_entries.now;
      words = a.words;
      line = record { starts = a.begins.now; size = a.attributes; ids = a.ids.now; values = a.values.now };
      path = a.path.now;
    } in
    made_kept given a.amounts.now (sym c.check_counting.ensures ∙ c.in_default.is) (c.count_line.ensures given.model given.line.size) c.finish_counts-finished.ensures.value c.finish_counts-finished.ensures.counts_after
