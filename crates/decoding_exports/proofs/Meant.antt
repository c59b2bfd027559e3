-- What C is told of a decoded line and of a scored path means what `Meaning` says. Assumes nothing.
use Rattle.std.specs.Prelude.{Ok}
use mathlib.Core.Path.{◌≡◌, refl, ap}
use mathlib.Core.List.{[], ◌∷◌}
use Prim.Native.Nat.{ℕ}
use lib.Ieee.{Float}
use Rattle.refusals.specs.Said.{Said}
use Rattle.best_path.specs.Scores.{tabled}
use Rattle.best_path.specs.Decoded.{decoded_sum}
use Rattle.best_path.specs.Lead.{lead}
use Rattle.best_path.specs.PathScore.{path_score}
use Rattle.refusal_rows.proofs.Groups.{above_zero}
use Rattle.viterbi.proofs.Meant as decoding
use Rattle.viterbi.specs.Promise.{SumAndLead, scores_of, checked_of, answer_to}
use Rattle.sequence_score.specs.Promise as path
use Rattle.sequence_score.proofs.Meant as scoring
use Rattle.answers.specs.Numbers.{decoded_numbers, scored_numbers}
use Rattle.answers.proofs.Told.{gives_refusal, refusal_given, zero_accepted, number_of_lem}
use Rattle.decoding_exports.specs.Meaning.{DecodesMean, ScoresMean, EveryPathIsScored}

pub decodes_mean : DecodesMean
unfolding answer_to
decodes_mean given before outcome kept =
    let found : SumAndLead = record { sum = decoded_sum (scores_of given) given.words; lead = lead (scores_of given) given.words } in
    let number : Said SumAndLead → ℕ = λ s. (decoded_numbers s).number in
    let place : Said SumAndLead → ℕ = λ s. (decoded_numbers s).place in
    let zero = number_of_lem found.sum found.lead in
    let checked = checked_of given before in
    let m = decoding.decoding_means given.labels given.words given.transitions given.states before in
    rw kept.answers
    (decoding.told
    (gives_refusal number place found zero (λ why. refl) (λ why. refl) checked)
    (refusal_given number place found zero (λ why. refl) (λ why. refl) checked)
    (zero_accepted number place found zero (λ why. refl) (λ why. refl) checked (λ n p h. above_zero (1 ∷ 4 ∷ 2 ∷ 6 ∷ []) n tt (m.only n p h)))
    m)

pub scores_mean : ScoresMean
unfolding path.answer_to
scores_mean given answer kept =
    let score = path_score (tabled given.labels given.transitions given.states) given.path given.count in
    let number : Said Float → ℕ = λ s. (scored_numbers s).number in
    let place : Said Float → ℕ = λ s. (scored_numbers s).place in
    let checked = path.checked_of given in
    let m = scoring.paths_mean given in
    rw kept.answers
    (scoring.told
    (gives_refusal number place score refl (λ why. refl) (λ why. refl) checked)
    (refusal_given number place score refl (λ why. refl) (λ why. refl) checked)
    (zero_accepted number place score refl (λ why. refl) (λ why. refl) checked (λ n p h. above_zero (1 ∷ 4 ∷ 2 ∷ 5 ∷ 6 ∷ []) n tt (m.only n p h)))
    m)

pub every_path_is_scored : EveryPathIsScored
unfolding path.answer_to
every_path_is_scored given answer kept sound =
    let accepted : path.checked_of given ≡ Ok tt = (scoring.paths_mean given).accepted.1 sound in
    let e = rw accepted at kept.answers in
    (ap (λ a. a.number) e, ap (λ a. a.score) e)
