-- What scoring a line answers means what `ScoringMeans` says. Assumes nothing.
use mathlib.Core.Path.{sym, ◌∙◌}
use Rattle.refusals.specs.Refusals.{Checked, numbered, or_next_of}
use Rattle.line_check.proofs.Meant.{scoring_means}
use Rattle.line_check.specs.Rows.{scoring_counts, scoring_rooms}
use Rattle.refusals.proofs.Said.{refused_said, done_said}
use Rattle.finished.proofs.Meant.{scores_mean}
use Rattle.finished.proofs.Answers.{answered}
use Rattle.compute_scores.specs.Promise.{states_of_line, transitions_of_line, scoring_of, checked_of, scores_finished_of, answer_to}
use Rattle.compute_scores.specs.Meaning.{starts_of, ids_of, numbers_of, EightIn, ScoresFinite, ScoringMeans}

pub scores_meant : ScoringMeans
unfolding answer_to
scores_meant given before outcome kept =
    let all : Checked = or_next_of (checked_of given before) (scores_finished_of given) in
    answered (checked_of given before) (scores_finished_of given)
    given.model.labels given.words (scoring_counts (scoring_of given before)) (scoring_rooms (scoring_of given before)) (starts_of given) (ids_of given) (numbers_of given) (EightIn given) (ScoresFinite given)
    (scoring_means (scoring_of given before))
    (scores_mean given.model.labels given.words (states_of_line given) (transitions_of_line given))
    _ _
    (λ number place h. (refused_said tt all (numbered number place)).0 (sym kept.answers ∙ h))
    (λ number place _ h. kept.answers ∙ (refused_said tt all (numbered number place)).1 h)
    (λ h. (done_said all).0 (sym kept.answers ∙ h), λ h. kept.answers ∙ (done_said all).1 h)
