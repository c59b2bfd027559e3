-- No two different outcomes satisfy the promise of a trainer. Assumes nothing.
use Rattle.std.specs.Prelude.{Ok, Err, Result}
use Rattle.refusals.specs.declared.Refusal.{Refusal}
use Rattle.training.specs.declared.Trained.{Trained}
use mathlib.Core.Path.{◌≡◌, sym, ◌∙◌, ap}
use Prim.Native.Nat.{ℕ}
use native.Mathlib.Omega.{arith}
use Rattle.refusals.proofs.Said.{same_given, same_refusal}
use Rattle.trainers.specs.Promise.{said, OnlyOne}

-- what is said tells the answer
pub told : (a b : Result Trained Refusal) → said a ≡ said b → a ≡ b
told (Ok t) (Ok u) h = ap Ok (same_given h)
told (Ok t) (Err v) h = let z : ◌≡◌ {A = ℕ} 0 1 = cc in absurd (omega arith)
told (Err w) (Ok u) h = let z : ◌≡◌ {A = ℕ} 0 1 = cc in absurd (omega arith)
told (Err w) (Err v) h = ap Err (same_refusal h)

pub only_one : OnlyOne
only_one method given before a b p q =
    let answer = told a.answer b.answer (p.answers ∙ sym q.answers) in
    let after = p.after ∙ sym q.after in
    λ i. record { answer = answer i; after = after i }
