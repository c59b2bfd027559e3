-- No two different outcomes satisfy the promise of `read_sheet`. Assumes nothing.
use Rattle.std.specs.Prelude.{Ok, Err, Result}
use Rattle.refusals.specs.declared.Refusal.{Refusal}
use Rattle.sheet.specs.declared.Size.{Size}
use mathlib.Core.Path.{◌≡◌, sym, ◌∙◌, ap}
use Prim.Native.Nat.{ℕ}
use native.Mathlib.Omega.{arith}
use Rattle.refusals.proofs.Said.{same_given, same_refusal}
use Rattle.sheet.specs.Promise.{LabelsAndWords, Outcome, said, OnlyOne}

-- what is said tells the answer
pub said_tells : (a b : Result Size Refusal) → said a ≡ said b → a ≡ b
said_tells (Ok s) (Ok t) h =
    let e = same_given h in
    let a : s.labels ≡ t.labels = ap (λ (z : LabelsAndWords). z.labels) e in
    let b : s.words ≡ t.words = ap (λ (z : LabelsAndWords). z.words) e in
    ap Ok (λ i. record { labels = a i; words = b i })
said_tells (Ok s) (Err why) h = let z : ◌≡◌ {A = ℕ} 0 1 = cc in absurd (omega arith)
said_tells (Err why) (Ok s) h = let z : ◌≡◌ {A = ℕ} 0 1 = cc in absurd (omega arith)
said_tells (Err why) (Err other) h = ap Err (same_refusal h)

pub only_one : OnlyOne
only_one given before o p h k =
    let a = said_tells o.answer p.answer (h.answers ∙ sym k.answers) in
    let t = h.fills_transitions ∙ sym k.fills_transitions in
    let s = h.fills_states ∙ sym k.fills_states in
    rebuilt a t s
  where
    rebuilt : o.answer ≡ p.answer → o.transitions ≡ p.transitions → o.states ≡ p.states → o ≡ p
    rebuilt a t s =
        let e : ◌≡◌ {A = Outcome} (record { answer = o.answer; transitions = o.transitions; states = o.states }) (record { answer = p.answer; transitions = p.transitions; states = p.states }) = rw (a, t, s) in
        e
