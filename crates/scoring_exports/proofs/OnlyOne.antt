-- No two different outcomes satisfy one promise. Assumes nothing.
use mathlib.Core.Path.{◌≡◌, sym, ◌∙◌}
use Rattle.compute_scores.specs.Promise.{Given, Buffers}
use Rattle.scoring_exports.specs.Scoring.{Outcome, ScoresLine}

pub one_scored : (given : Given) (before : Buffers) (a b : Outcome) → ScoresLine given before a → ScoresLine given before b → a ≡ b
one_scored given before a b p q =
    let e : a.answer ≡ b.answer = p.answers ∙ sym q.answers in
    let s : a.states ≡ b.states = p.states ∙ sym q.states in
    let t : a.transitions ≡ b.transitions = p.transitions ∙ sym q.transitions in
    λ i. record { answer = e i; states = s i; transitions = t i }
