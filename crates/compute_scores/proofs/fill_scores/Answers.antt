-- `compute_scores::fill_scores` meets its contract: an accepted line meets what its scores require. Assumes nothing.
use Rattle.lines.specs.Tables.{Model}
use Rattle.feature_gen.specs.Lent.{model_of}
use Rattle.finished.proofs.Laws.{from_first}
use Rattle.compute_scores.proofs.fill_scores.Goals.{Start}
use Rattle.compute_scores.proofs.fill_scores.Goals as goal

abbrev model : Start → Model
model c =
    let a = c.args in
    model_of a.labels a.counts a.kinds.now a.destinations.now a.sources.now a.attribute_starts.now a.attribute_entries.now a.label_starts.now a.label_entries.now

pub score_line-requires : goal.score_line-requires
score_line-requires c =
    let s = c.requires in
    record { sound_states = s.model.transitions.states; sound_lists = s.model.sound.attribute_lists; sound_words = from_first _ _ _ _ s.line.words; labels_in_bounds = s.fits.states }

pub score_transitions-requires : goal.score_transitions-requires
score_transitions-requires c =
    let s = c.requires in
    record { sound_transitions = s.model.transitions; sound_lists = s.model.sound.label_lists; labels_in_bounds = s.fits.transitions }

pub returns : goal.returns
returns c =
    record { transitions_after = c.score_transitions.ensures (model (goal.at.returns c).Start); states_after = c.score_line.ensures (model (goal.at.returns c).Start) c.args.attributes }
