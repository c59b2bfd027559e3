-- No two different outcomes satisfy the promise of counting the features of a line. Assumes nothing.
use mathlib.Core.Path.{sym, ◌∙◌}
use Rattle.refusals.proofs.Said.{said_once}
use Rattle.extract_features.specs.Promise.{OnlyOne}

pub only_one : OnlyOne
only_one given before a b p q =
    let answer = said_once a.answer b.answer (p.answers ∙ sym q.answers) in
    let amounts = p.amounts ∙ sym q.amounts in
    λ i. record { answer = answer i; amounts = amounts i }
