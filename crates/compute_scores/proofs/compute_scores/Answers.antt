-- `compute_scores::compute_scores` keeps its promise. Assumes nothing.
use Rattle.std.specs.Prelude.{Ok, Err}
use mathlib.Core.Path.{◌≡◌, sym, ◌∙◌}
use native.Mathlib.Omega.{arith}
use Rattle.feature_gen.specs.Lent.{model_of}
use Rattle.line_check.specs.Sound.{SoundScoring}
use Rattle.line_check.proofs.Meant.{scoring_sound}
use Rattle.compute_scores.specs.Promise.{Given, Buffers, scoring_of, checked_of}
use Rattle.compute_scores.proofs.Kept.{sized, refused_kept, made_kept}
use Rattle.refusals.specs.Refusals.{Checked}
use Rattle.compute_scores.proofs.compute_scores.Goals as goal

-- an accepted call has sound tables
sound : (given : Given) (lent : Buffers) {checked : Checked} → checked ≡ checked_of given lent → checked ≡ Ok tt → SoundScoring (scoring_of given lent)
sound given lent e h = scoring_sound (scoring_of given lent) (sym e ∙ h)

pub returns-in-Err : goal.returns-in-Err
returns-in-Err c =
    let e = c.refuse_scores.ensures in
    refused_kept _ _ _ (sym c.check_scoring.ensures ∙ c.in-Err.is) e.value e.states_unchanged e.transitions_unchanged

pub fill_scores-requires : goal.fill_scores-requires
fill_scores-requires c =
    let a = c.args in
    let given : Given = record {
      model = model_of a.labels a.counts a.kinds.now a.destinations.now a.sources.now a.attribute_starts.now a.attribute_entries.now a.label_starts.now a.label_entries.now;
      weights = a.weights.now;
      words = a.words;
      line = record { starts = a.begins.now; size = a.attributes; ids = a.ids.now; values = a.values.now };
    } in
    let lent : Buffers = record { transitions = a.transitions.now; states = a.states.now } in
    sound given lent c.check_scoring.ensures c.in_default.is

pub finish_scores-finished-requires : goal.finish_scores-finished-requires
finish_scores-finished-requires c =
    let a = c.args in
    let given : Given = record {
      model = model_of a.labels a.counts a.kinds.now a.destinations.now a.sources.now a.attribute_starts.now a.attribute_entries.now a.label_starts.now a.label_entries.now;
      weights = a.weights.now;
      words = a.words;
      line = record { starts = a.begins.now; size = a.attributes; ids = a.ids.now; values = a.values.now };
    } in
    let lent : Buffers = record { transitions = a.transitions.now; states = a.states.now } in
    sized given lent (sound given lent c.check_scoring.ensures c.in_default.is) _ _ (omega (arith, c.fill_scores.auto.states)) (omega (arith, c.fill_scores.auto.transitions))

pub returns : goal.returns
returns c =
    let a = c.args in
    let given : Given = record {
      model = model_of a.labels a.counts a.kinds.now a.destinations.now a.sources.now a.attribute_starts.now a.attribute_entries.now a.label_starts.now a.label_entries.now;
      weights = a.weights.now;
      words = a.words;
      line = record { starts = a.begins.now; size = a.attributes; ids = a.ids.now; values = a.values.now };
    } in
    let lent : Buffers = record { transitions = a.transitions.now; states = a.states.now } in
    made_kept given lent (sym c.check_scoring.ensures ∙ c.in_default.is) c.fill_scores.ensures.states_after c.fill_scores.ensures.transitions_after c.finish_scores-finished.ensures.value c.finish_scores-finished.ensures.states_after c.finish_scores-finished.ensures.transitions_after
