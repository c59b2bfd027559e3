-- No two different outcomes satisfy one promise. Assumes nothing.
use mathlib.Core.Path.{◌≡◌, sym, ◌∙◌}
use mathlib.Core.List.{List}
use Prim.Native.Nat.{ℕ}
use Rattle.compute_scores.specs.Promise.{Given}
use Rattle.answers.specs.Numbers.{DecodedLine}
use Rattle.label_exports.specs.Labels.{Labels}

pub one_labelled : (given : Given) (before : List ℕ) (a b : DecodedLine) → Labels given before a → Labels given before b → a ≡ b
one_labelled given before a b p q =
    let e : a.answer ≡ b.answer = p.answers ∙ sym q.answers in
    let d : a.path ≡ b.path = p.path ∙ sym q.path in
    λ i. record { answer = e i; path = d i }
