-- Demand 3 of every line that C hands over. Assumes nothing.
use Rattle.std.specs.Prelude.{Ok}
use mathlib.Core.Path.{◌≡◌, ap, ◌∙◌}
use lib.ListN.{take, drop}
use lib.Seq.{take_at}
use Rattle.best_path.specs.Decoded.{decoded_path, decoded_sum}
use Rattle.best_path.specs.Lead.{lead}
use Rattle.best_path.proofs.Laws.{decoded_length}
use Rattle.best_path.proofs.Demand3.{demand_3}
use Rattle.viterbi.proofs.Meant.{decoding_means}
use Rattle.viterbi.specs.Promise.{scores_of, checked_of, answer_to, path_after}
use Rattle.answers.proofs.Told.{number_of_lem, sum_of}
use Rattle.decoding_exports.specs.Meaning.{EveryLineIsBest}

pub every_line_is_best : EveryLineIsBest
unfolding answer_to path_after
every_line_is_best given before outcome kept sound long =
    let s = scores_of given in
    let words = given.words in
    let accepted : checked_of given before ≡ Ok tt = (decoding_means _ _ _ _ _).accepted.1 (sound, long) in
    let answer = rw accepted at kept.answers in
    let low = sound.sized.words_in_lem.low in
    let best = demand_3 s words sound.sized.labels_in.low low sound.finite in
    let front : take words outcome.path ≡ decoded_path s words = rw (kept.path, accepted) (take_at (decoded_path s words) (drop words before) words (decoded_length s words low)) in
    let same : outcome.answer.sum ≡ decoded_sum s words = ap (λ a. a.sum) answer ∙ sum_of (decoded_sum s words) (lead s words) in
    (ap (λ a. a.number) answer ∙ number_of_lem (decoded_sum s words) (lead s words), rw (front, same) best)
