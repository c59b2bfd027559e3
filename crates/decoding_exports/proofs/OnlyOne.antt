-- No two different outcomes satisfy one promise. Assumes nothing.
use mathlib.Core.Path.{◌≡◌, sym, ◌∙◌}
use mathlib.Core.List.{List}
use Prim.Native.Nat.{ℕ}
use Rattle.viterbi.specs.Promise.{Given}
use Rattle.sequence_score.specs.Promise as path
use Rattle.answers.specs.declared.decoding.Scored.{Scored}
use Rattle.answers.specs.Numbers.{DecodedLine}
use Rattle.decoding_exports.specs.Decoding.{Decodes, ScoresPath}

pub one_decoded : (given : Given) (before : List ℕ) (a b : DecodedLine) → Decodes given before a → Decodes given before b → a ≡ b
one_decoded given before a b p q =
    let e : a.answer ≡ b.answer = p.answers ∙ sym q.answers in
    let d : a.path ≡ b.path = p.path ∙ sym q.path in
    λ i. record { answer = e i; path = d i }

pub one_scored : (given : path.Given) (a b : Scored) → ScoresPath given a → ScoresPath given b → a ≡ b
one_scored given a b p q = p.answers ∙ sym q.answers
