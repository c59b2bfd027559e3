-- What labelling a line answers means what `LabellingMeans` says. Assumes nothing.
use Rattle.std.specs.Prelude.{Ok}
use mathlib.Core.Path.{◌≡◌, refl, sym, ap, ◌∙◌}
use mathlib.Core.List.{List}
use mathlib.Core.Logic.{◌↔◌}
use Prim.Native.Nat.{ℕ, ◌<◌}
use lib.ListN.{length}
use Rattle.refusals.specs.Refusals.{Checked, numbered, refused_at, or_next_of}
use Rattle.refusals.specs.Said.{or_refused}
use Rattle.refusals.proofs.Said.{refused_said, accepted_said}
use Rattle.best_path.specs.Decoded.{decoded_sum}
use Rattle.best_path.specs.Lead.{lead}
use Rattle.viterbi.specs.Promise.{SumAndLead, decoded}
use Rattle.line_check.specs.Meaning as checks
use Rattle.line_check.proofs.Meant.{meaning}
use Rattle.finished.proofs.Meant.{scores_mean}
use Rattle.finished.proofs.Answers.{answered}
use Rattle.compute_scores.specs.Promise.{Given, states_of_line, transitions_of_line, scores_finished_of}
use Rattle.compute_scores.specs.Meaning.{starts_of, ids_of, numbers_of, EightIn, ScoresFinite}
use Rattle.label_line.specs.Rows.{label_counts, label_rooms, label_checked}
use Rattle.label_line.specs.Promise.{scores_of_line, checked_of, answer_to}
use Rattle.label_line.specs.Meaning.{Meaning, LabellingMeans}

-- 1, 4, 2, 3, 5 and 6, for a path's buffer of this length
pub checks_mean : (given : Given) (path : ℕ) → checks.Meaning (label_checked given path) given.model.labels given.words (label_counts given) (label_rooms given path) (starts_of given) (ids_of given) (numbers_of given)
unfolding label_checked
checks_mean given path =
    meaning given.model.labels given.words (label_counts given) (label_rooms given path) (starts_of given) (ids_of given) (numbers_of given)
    (refl, (refl, (refl, tt)))
    (refl, (refl, (refl, (refl, (refl, tt)))))
    (refl, (refl, tt))

-- however the answer is told, as long as it tells the check's
pub labelled_so :
    (given : Given) (before : List ℕ) (Refuses : ℕ → ℕ → Type 0) (Accepts : Type 0) →
    ((number place : ℕ) → Refuses number place → or_next_of (checked_of given before) (scores_finished_of given) ≡ refused_at number place) →
    ((number place : ℕ) → 0 < number → or_next_of (checked_of given before) (scores_finished_of given) ≡ refused_at number place → Refuses number place) →
    Accepts ↔ or_next_of (checked_of given before) (scores_finished_of given) ≡ Ok tt →
    Meaning Refuses Accepts given before
labelled_so given before Refuses Accepts to from accepted =
    answered (checked_of given before) (scores_finished_of given)
    given.model.labels given.words (label_counts given) (label_rooms given (length before)) (starts_of given) (ids_of given) (numbers_of given) (EightIn given) (ScoresFinite given)
    (checks_mean given (length before))
    (scores_mean given.model.labels given.words (states_of_line given) (transitions_of_line given))
    Refuses Accepts to from accepted

pub labelling_meant : LabellingMeans
unfolding answer_to
labelling_meant given before outcome kept =
    let all : Checked = or_next_of (checked_of given before) (scores_finished_of given) in
    let found : SumAndLead = record { sum = decoded_sum (scores_of_line given) given.words; lead = lead (scores_of_line given) given.words } in
    labelled_so given before _ _
    (λ number place h. (refused_said found all (numbered number place)).0 (sym kept.answers ∙ h))
    (λ number place _ h. kept.answers ∙ (refused_said found all (numbered number place)).1 h) (
      λ h. accepted_said found (record { sum = h.0; lead = h.1 }) all (sym kept.answers ∙ h.2),
      λ h. (found.sum, found.lead, kept.answers ∙ ap (λ (c : Checked). or_refused c (decoded found.sum found.lead)) h),
    )
