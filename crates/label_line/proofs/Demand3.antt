-- What labelling a line answers is best, as demand 3 says. Assumes nothing.
use Rattle.std.specs.Prelude.{Ok}
use mathlib.Core.Path.{◌≡◌, sym, ap, ◌∙◌}
use lib.ListN.{length, take, drop}
use lib.Seq.{take_at}
use Rattle.refusals.specs.Refusals.{or_next_of}
use Rattle.refusals.proofs.Laws.{both}
use Rattle.refusals.proofs.Said.{same_given, accepted_said}
use Rattle.best_path.specs.Scores.{AllFinite}
use Rattle.best_path.specs.Decoded.{decoded_path, decoded_sum}
use Rattle.best_path.proofs.Laws.{decoded_length}
use Rattle.best_path.proofs.Demand3.{demand_3}
use Rattle.score_tables.proofs.Laws.{within}
use Rattle.viterbi.specs.Promise.{SumAndLead}
use Rattle.finished.proofs.Meant.{scores_mean}
use Rattle.compute_scores.specs.Promise.{Given, states_of_line, transitions_of_line, scores_finished_of}
use Rattle.label_line.specs.Promise.{scores_of_line, checked_of, answer_to, labels_after}
use Rattle.label_line.specs.Demand3.{AnswersAreBest}
use Rattle.label_line.proofs.Meant.{checks_mean}

-- 8 was not given: every score is finite
pub all_finite : (given : Given) → scores_finished_of given ≡ Ok tt → AllFinite (scores_of_line given) given.words
all_finite given h =
    let labels = given.model.labels in
    let f = (scores_mean labels given.words (states_of_line given) (transitions_of_line given)).accepted.0 h in
    record {
      states = λ word label w l. f.0 _ (within given.words labels word label w l);
      transitions = λ previous label p l. f.1 _ (within labels labels previous label p l);
    }

pub answers_are_best : AnswersAreBest
unfolding answer_to labels_after
answers_are_best given before outcome kept sum l answer =
    let s = scores_of_line given in
    let words = given.words in
    let said_so = sym kept.answers ∙ answer in
    let all : or_next_of (checked_of given before) (scores_finished_of given) ≡ Ok tt = accepted_said _ (record { sum = sum; lead = l }) _ said_so in
    let accepted = both (checked_of given before) (scores_finished_of given) all in
    let fine = (checks_mean given (length before)).accepted.0 accepted.0 in
    let best = demand_3 s words fine.0.low fine.1.0.low (all_finite given accepted.1) in
    let front : take words outcome.path ≡ decoded_path s words = rw (kept.path, accepted.0, accepted.1) (take_at (decoded_path s words) (drop words before) words (decoded_length s words fine.1.0.low)) in
    let same : decoded_sum s words ≡ sum = ap (λ (found : SumAndLead). found.sum) (same_given (rw all at said_so)) in
    rw (front, ← same) best
