-- What counting the features of a line answers means what `CountingMeans` says. Assumes nothing.
use mathlib.Core.Path.{sym, ◌∙◌}
use mathlib.Core.List.{◌++◌}
use Rattle.refusals.specs.Refusals.{Checked, numbered, or_next_of}
use Rattle.refusals.specs.Meaning.{FirstBad}
use Rattle.fronts.specs.Finite.{FiniteTo, NotFinite}
use Rattle.refusals.proofs.Said.{refused_said, done_said}
use Rattle.feature_gen.specs.Rows.{id_tests}
use Rattle.line_check.specs.Rows.{counting_counts, counting_rooms, line_starts, label_tests, value_tests}
use Rattle.line_check.proofs.Meant.{counting_means}
use Rattle.finished.proofs.Meant.{counts_mean}
use Rattle.finished.proofs.Answers.{answered}
use Rattle.extract_features.specs.Promise.{needed, counts_of_line, counting_of, checked_of, counts_finished_of, answer_to}
use Rattle.extract_features.specs.Meaning.{CountingMeans}

pub counts_meant : CountingMeans
unfolding answer_to
counts_meant given before outcome kept =
    let all : Checked = or_next_of (checked_of given before) (counts_finished_of given) in
    answered (checked_of given before) (counts_finished_of given)
    given.model.labels given.words (counting_counts (counting_of given before)) (counting_rooms (counting_of given before))
    (line_starts given.model given.words given.line.starts given.line.size)
    (id_tests given.model ++ label_tests (counting_of given before))
    (value_tests given.line)
    (FirstBad (NotFinite (counts_of_line given)) (needed given)) (FiniteTo (counts_of_line given) (needed given))
    (counting_means (counting_of given before))
    (counts_mean (counts_of_line given) (needed given))
    _ _
    (λ number place h. (refused_said tt all (numbered number place)).0 (sym kept.answers ∙ h))
    (λ number place _ h. kept.answers ∙ (refused_said tt all (numbered number place)).1 h)
    (λ h. (done_said all).0 (sym kept.answers ∙ h), λ h. kept.answers ∙ (done_said all).1 h)
