-- No two different outcomes satisfy one promise. Assumes nothing.
use mathlib.Core.Path.{◌≡◌, sym, ◌∙◌}
use Rattle.parameters.specs.declared.Method.{Method}
use Rattle.trainers.specs.Promise.{Given, Buffers}
use Rattle.training_exports.specs.Trains.{Outcome, Trains}

pub one_training : (method : Method) (given : Given) (before : Buffers) (a b : Outcome) → Trains method given before a → Trains method given before b → a ≡ b
one_training method given before a b p q =
    let e : a.answer ≡ b.answer = p.answers ∙ sym q.answers in
    let d : a.after ≡ b.after = p.after ∙ sym q.after in
    λ i. record { answer = e i; after = d i }
