-- What C is told of a labelled line means what `Meaning` says. Assumes nothing.
use Rattle.std.specs.Prelude.{Ok}
use mathlib.Core.Path.{◌≡◌, refl, ap, ◌∙◌}
use mathlib.Core.List.{[], ◌∷◌}
use mathlib.Core.Logic.{inl, ⊎_elim}
use Prim.Native.Nat.{ℕ}
use lib.ListN.{length, take, drop}
use lib.Seq.{take_at}
use Rattle.refusals.specs.Refusals.{Checked, or_next_of}
use Rattle.refusals.specs.Said.{Said}
use Rattle.refusals.proofs.Laws.{either}
use Rattle.best_path.specs.Decoded.{decoded_path, decoded_sum}
use Rattle.best_path.specs.Lead.{lead}
use Rattle.best_path.proofs.Laws.{decoded_length}
use Rattle.best_path.proofs.Demand3.{demand_3}
use Rattle.refusal_rows.proofs.Groups.{above_zero}
use Rattle.finished.proofs.Meant.{scores_mean}
use Rattle.compute_scores.specs.Promise.{states_of_line, transitions_of_line, scores_finished_of}
use Rattle.viterbi.specs.Promise.{SumAndLead}
use Rattle.label_line.specs.Promise.{scores_of_line, checked_of, answer_to, labels_after}
use Rattle.label_line.proofs.Meant.{checks_mean, labelled_so}
use Rattle.label_line.proofs.Demand3.{all_finite}
use Rattle.answers.specs.Numbers.{decoded_numbers}
use Rattle.answers.proofs.Told.{number_of_lem, sum_of, gives_refusal, refusal_given, zero_accepted}
use Rattle.label_exports.specs.Meaning.{LabelsMean, EveryLineIsBest}

pub labels_mean : LabelsMean
unfolding answer_to
labels_mean given before outcome kept =
    let all : Checked = or_next_of (checked_of given before) (scores_finished_of given) in
    let found : SumAndLead = record { sum = decoded_sum (scores_of_line given) given.words; lead = lead (scores_of_line given) given.words } in
    let number : Said SumAndLead → ℕ = λ x. (decoded_numbers x).number in
    let place : Said SumAndLead → ℕ = λ x. (decoded_numbers x).place in
    let zero = number_of_lem found.sum found.lead in
    let s = scores_mean given.model.labels given.words (states_of_line given) (transitions_of_line given) in
    rw kept.answers
    (labelled_so given before _ _
    (gives_refusal number place found zero (λ why. refl) (λ why. refl) all)
    (refusal_given number place found zero (λ why. refl) (λ why. refl) all)
    (zero_accepted number place found zero (λ why. refl) (λ why. refl) all (λ n p h.
    ⊎_elim
    (λ c. above_zero (1 ∷ 4 ∷ 2 ∷ 3 ∷ 5 ∷ 6 ∷ []) n tt ((checks_mean given (length before)).only _ c))
    (λ q. rw (s.only _ q.1) (above_zero (8 ∷ []) 8 tt (inl refl)))
    (either (checked_of given before) (scores_finished_of given) _ h))))

pub every_line_is_best : EveryLineIsBest
unfolding answer_to labels_after or_next_of
every_line_is_best given before outcome kept fine finite =
    let s = scores_of_line given in
    let words = given.words in
    let checked : checked_of given before ≡ Ok tt = (checks_mean given (length before)).accepted.1 fine in
    let finished : scores_finished_of given ≡ Ok tt = (scores_mean given.model.labels words (states_of_line given) (transitions_of_line given)).accepted.1 finite in
    let answer = rw (checked, finished) at kept.answers in
    let low = fine.1.0.low in
    let best = demand_3 s words fine.0.low low (all_finite given finished) in
    let front : take words outcome.path ≡ decoded_path s words = rw (kept.path, checked, finished) (take_at (decoded_path s words) (drop words before) words (decoded_length s words low)) in
    let same : outcome.answer.sum ≡ decoded_sum s words = ap (λ a. a.sum) answer ∙ sum_of (decoded_sum s words) (lead s words) in
    (ap (λ a. a.number) answer ∙ number_of_lem (decoded_sum s words) (lead s words), rw (front, same) best)
