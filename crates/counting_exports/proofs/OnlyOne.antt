-- No two different outcomes satisfy one promise. Assumes nothing.
use mathlib.Core.Path.{◌≡◌, sym, ◌∙◌}
use mathlib.Core.List.{List}
use lib.Ieee.{Float}
use Rattle.extract_features.specs.Promise.{Given}
use Rattle.counting_exports.specs.Counts.{Outcome, Counted}

pub one_counted : (given : Given) (before : List Float) (a b : Outcome) → Counted given before a → Counted given before b → a ≡ b
one_counted given before a b p q =
    let e : a.answer ≡ b.answer = p.answers ∙ sym q.answers in
    let n : a.counts ≡ b.counts = p.counts ∙ sym q.counts in
    λ i. record { answer = e i; counts = n i }
