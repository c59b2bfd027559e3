-- What the buffers held when they were lent has no part in what a trainer gives. The proof, from the promise, is in proofs/SameAnswer.
use Rattle.std.specs.Prelude.{◌≡◌, length, take, Ok}
use Rattle.parameters.specs.declared.Method.{Method}
use Rattle.trainers.specs.Promise.{Given, Buffers, Outcome, checked_of, Promised}

-- buffers of the same lengths
pub record SameLengths (a b : Buffers) : Type 0 where
  pub weights : length a.weights ≡ length b.weights
  pub beside : length a.beside ≡ length b.beside
  pub truly : length a.truly ≡ length b.truly
  pub predicted : length a.predicted ≡ length b.predicted
  pub order : length a.order ≡ length b.order

-- buffers whose needed fronts are the same
pub record SameFronts (given : Given) (a b : Buffers) : Type 0 where
  pub weights : take given.model.features.count a.weights ≡ take given.model.features.count b.weights
  pub beside : take given.model.features.count a.beside ≡ take given.model.features.count b.beside
  pub truly : take given.model.features.count a.truly ≡ take given.model.features.count b.truly
  pub predicted : take given.model.features.count a.predicted ≡ take given.model.features.count b.predicted
  pub order : take given.corpus.instances a.order ≡ take given.corpus.instances b.order

-- two calls alike but for the contents of what they are lent: the same answer and, unless a number of 1 to 7 was given, the same needed fronts
pub record Same (method : Method) (given : Given) (before : Buffers) (a b : Outcome) : Type 0 where
  pub answers : a.answer ≡ b.answer
  pub fronts : checked_of method given before ≡ Ok tt → SameFronts given a.after b.after

abbrev pub SameAnswer : Type 0
SameAnswer =
    (method : Method) (given : Given) (before other : Buffers) → SameLengths before other →
    (a b : Outcome) → Promised method given before a → Promised method given other b →
    Same method given before a b
