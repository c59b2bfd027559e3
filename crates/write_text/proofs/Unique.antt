-- No two different outcomes satisfy the promise of the writer. Assumes nothing.
use Rattle.std.specs.Prelude.{Ok, Err, Result}
use Rattle.refusals.specs.declared.Refusal.{Refusal}
use mathlib.Core.Path.{◌≡◌, sym, ◌∙◌, ap}
use Prim.Native.Nat.{ℕ}
use native.Mathlib.Omega.{arith}
use Rattle.refusals.proofs.Said.{same_given, same_refusal}
use Rattle.write_text.specs.Promise.{said, OnlyOne}

-- what is said tells the answer
pub told : (a b : Result ℕ Refusal) → said a ≡ said b → a ≡ b
told (Ok m) (Ok n) h = ap Ok (same_given h)
told (Ok m) (Err v) h = let z : ◌≡◌ {A = ℕ} 0 1 = cc in absurd (omega arith)
told (Err w) (Ok n) h = let z : ◌≡◌ {A = ℕ} 0 1 = cc in absurd (omega arith)
told (Err w) (Err v) h = ap Err (same_refusal h)

pub only_one : OnlyOne
only_one given before a b p q =
    let answer = told a.answer b.answer (p.answers ∙ sym q.answers) in
    let text = p.text ∙ sym q.text in
    λ i. record { answer = answer i; text = text i }
