-- No two different outcomes satisfy the promise of a path score. Assumes nothing.
use Rattle.std.specs.Prelude.{Ok, Err, Result}
use mathlib.Core.Path.{◌≡◌, sym, ◌∙◌, ap}
use Prim.Native.Nat.{ℕ}
use native.Mathlib.Omega.{arith}
use lib.Ieee.{Float}
use Rattle.refusals.specs.declared.Refusal.{Refusal}
use Rattle.refusals.proofs.Said.{same_refusal}
use Rattle.sequence_score.specs.Promise.{said, OnlyOne}

-- what is said tells the answer
told : (a b : Result Float Refusal) → said a ≡ said b → a ≡ b
told (Ok x) (Ok y) h = let e : x ≡ y = cc in ap Ok e
told (Ok x) (Err v) h = let z : ◌≡◌ {A = ℕ} 0 1 = cc in absurd (omega arith)
told (Err w) (Ok y) h = let z : ◌≡◌ {A = ℕ} 0 1 = cc in absurd (omega arith)
told (Err w) (Err v) h = ap Err (same_refusal h)

pub only_one : OnlyOne
only_one given a b p q = told a b (p.answers ∙ sym q.answers)
