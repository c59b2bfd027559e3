-- No two different outcomes satisfy one promise. Assumes nothing.
use mathlib.Core.Path.{◌≡◌, sym, ◌∙◌}
use mathlib.Core.List.{List}
use lib.Ieee.{Float}
use Rattle.feature_gen.specs.CheckModel.{Given}
use Rattle.set_weights.specs.SetWeights.{Setting}
use Rattle.answers.specs.declared.checks.Refused.{Refused}
use Rattle.model_exports.specs.Model.{Outcome, Checks, Sets}

pub one_check : (given : Given) (a b : Refused) → Checks given a → Checks given b → a ≡ b
one_check given a b p q = p.answers ∙ sym q.answers

pub one_setting : (given : Setting) (before : List Float) (a b : Outcome) → Sets given before a → Sets given before b → a ≡ b
one_setting given before a b p q =
    let e : a.answer ≡ b.answer = p.answers ∙ sym q.answers in
    let w : a.weights ≡ b.weights = p.weights ∙ sym q.weights in
    λ i. record { answer = e i; weights = w i }
