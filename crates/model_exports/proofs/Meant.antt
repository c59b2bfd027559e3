-- What C is told of a checked model and of weights that are set means what `Meaning` says. Assumes nothing.
use mathlib.Core.Path.{refl}
use mathlib.Core.List.{[], ◌∷◌}
use Prim.Native.Nat.{ℕ}
use lib.ListN.{length}
use Rattle.refusals.specs.Refusals.{Checked}
use Rattle.refusals.specs.Said.{Said}
use Rattle.refusal_rows.proofs.Groups.{above_zero}
use Rattle.feature_gen.specs.Rows.{model_checked}
use Rattle.feature_gen.specs.CheckModel as model
use Rattle.feature_gen.proofs.Meant as models
use Rattle.set_weights.specs.SetWeights.{new_checked}
use Rattle.set_weights.specs.SetWeights as weights
use Rattle.set_weights.proofs.Meant as settings
use Rattle.answers.specs.Numbers.{numbers}
use Rattle.answers.proofs.Told.{gives_refusal, refusal_given, zero_accepted}
use Rattle.model_exports.specs.Meaning.{ChecksMean, SetsMean}

-- the number and the place that C gets
abbrev number : Said Unit → ℕ
number s = (numbers s).number

abbrev place : Said Unit → ℕ
place s = (numbers s).place

pub checks_mean : ChecksMean
unfolding model.answer_to
checks_mean given answer kept =
    let checked : Checked = model_checked given.model given.weights in
    let m = models.models_mean given.model given.weights in
    rw kept.answers
    (models.told
    (gives_refusal number place tt refl (λ why. refl) (λ why. refl) checked)
    (refusal_given number place tt refl (λ why. refl) (λ why. refl) checked)
    (zero_accepted number place tt refl (λ why. refl) (λ why. refl) checked (λ n p h. above_zero (1 ∷ 2 ∷ 3 ∷ 5 ∷ 6 ∷ []) n tt (m.only n p h)))
    m)

pub sets_mean : SetsMean
unfolding weights.answer_to
sets_mean given before outcome kept =
    let checked : Checked = new_checked given (length before) in
    let m = settings.new_weights_mean given (length before) in
    rw kept.answers
    (settings.told
    (gives_refusal number place tt refl (λ why. refl) (λ why. refl) checked)
    (refusal_given number place tt refl (λ why. refl) (λ why. refl) checked)
    (zero_accepted number place tt refl (λ why. refl) (λ why. refl) checked (λ n p h. above_zero (2 ∷ 6 ∷ []) n tt (m.only n p h)))
    m)
