-- What the call answers is best, as demand 3 says. Assumes nothing.
use mathlib.Core.Path.{◌≡◌, sym, ap, ◌∙◌}
use lib.ListN.{take, drop}
use lib.Seq.{take_at}
use Rattle.refusals.proofs.Said.{same_given, accepted_said}
use Rattle.best_path.specs.Decoded.{decoded_path, decoded_sum}
use Rattle.best_path.proofs.Laws.{decoded_length}
use Rattle.best_path.proofs.Demand3.{demand_3}
use Rattle.viterbi.specs.Promise.{SumAndLead, scores_of, checked_of, answer_to, path_after}
use Rattle.viterbi.specs.Demand3.{AnswersAreBest}
use Rattle.viterbi.proofs.Kept.{ready, all_finite}

pub answers_are_best : AnswersAreBest
unfolding answer_to path_after
answers_are_best given before outcome kept sum l answer =
    let s = scores_of given in
    let words = given.words in
    let said_so = sym kept.answers ∙ answer in
    let accepted = accepted_said _ (record { sum = sum; lead = l }) (checked_of given before) said_so in
    let size = (ready given before accepted).sized in
    let best = demand_3 s words size.labels_in.low size.words_in_lem.low (all_finite given before accepted) in
    let front : take words outcome.path ≡ decoded_path s words = rw (kept.path, accepted) (take_at (decoded_path s words) (drop words before) words (decoded_length s words size.words_in_lem.low)) in
    let same : decoded_sum s words ≡ sum = ap (λ (found : SumAndLead). found.sum) (same_given (rw accepted at said_so)) in
    rw (front, ← same) best
