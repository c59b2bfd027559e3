-- No two different outcomes satisfy the promise of decoding a line. Assumes nothing.
use Rattle.std.specs.Prelude.{Ok, Err, Result, Some, None, Option}
use Rattle.refusals.specs.declared.Refusal.{Refusal}
use Rattle.viterbi_end.specs.declared.Found.{Found}
use mathlib.Core.Path.{◌≡◌, sym, ◌∙◌, ap}
use Prim.Native.Nat.{ℕ}
use lib.Ieee.{Float}
use native.Mathlib.Omega.{arith}
use Rattle.refusals.proofs.Said.{same_given, same_refusal}
use Rattle.viterbi_end.specs.Ends.{lead_said}
use Rattle.viterbi.specs.Promise.{SumAndLead, said, OnlyOne}

-- what is said of a lead tells the lead
lead_told : (a b : Option Float) → lead_said a ≡ lead_said b → a ≡ b
lead_told None None h = cc
lead_told None (Some y) h = let z : ◌≡◌ {A = ℕ} 0 1 = cc in absurd (omega arith)
lead_told (Some x) None h = let z : ◌≡◌ {A = ℕ} 0 1 = cc in absurd (omega arith)
lead_told (Some x) (Some y) h = let e : x ≡ y = cc in ap Some e

-- what is said tells the answer
pub told : (a b : Result Found Refusal) → said a ≡ said b → a ≡ b
told (Ok f) (Ok g) h =
    let e = same_given h in
    let s : f.sum ≡ g.sum = ap (λ (x : SumAndLead). x.sum) e in
    let l = lead_told f.lead g.lead (ap (λ (x : SumAndLead). x.lead) e) in
    ap Ok (λ i. record { sum = s i; lead = l i })
told (Ok f) (Err v) h = let z : ◌≡◌ {A = ℕ} 0 1 = cc in absurd (omega arith)
told (Err w) (Ok g) h = let z : ◌≡◌ {A = ℕ} 0 1 = cc in absurd (omega arith)
told (Err w) (Err v) h = ap Err (same_refusal h)

pub only_one : OnlyOne
only_one given before a b p q =
    let answer = told a.answer b.answer (p.answers ∙ sym q.answers) in
    let path = p.path ∙ sym q.path in
    λ i. record { answer = answer i; path = path i }
