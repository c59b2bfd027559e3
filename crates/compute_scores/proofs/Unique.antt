-- No two different outcomes satisfy the promise of scoring a line. Assumes nothing.
use mathlib.Core.Path.{sym, ◌∙◌}
use Rattle.refusals.proofs.Said.{said_once}
use Rattle.compute_scores.specs.Promise.{OnlyOne}

pub only_one : OnlyOne
only_one given before a b p q =
    let answer = said_once a.answer b.answer (p.answers ∙ sym q.answers) in
    let states = p.states ∙ sym q.states in
    let transitions = p.transitions ∙ sym q.transitions in
    λ i. record { answer = answer i; states = states i; transitions = transitions i }
