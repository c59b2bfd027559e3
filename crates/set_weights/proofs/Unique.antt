-- No two different outcomes satisfy the promise of `set_weights`. Assumes nothing.
use mathlib.Core.Path.{◌≡◌, sym, ◌∙◌}
use Rattle.refusals.proofs.Said.{said_once}
use Rattle.set_weights.specs.SetWeights.{OnlyOne}

pub only_weights : OnlyOne
only_weights given before a b p q =
    let s = said_once a.answer b.answer (p.answers ∙ sym q.answers) in
    let w : a.weights ≡ b.weights = p.weights ∙ sym q.weights in
    rw (s, w)
