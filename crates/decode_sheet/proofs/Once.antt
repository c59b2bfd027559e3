-- No two different outcomes satisfy the promises of `decode_sheet` and `print_sheet`. Assumes nothing.
use Rattle.std.specs.Prelude.{Ok, Err, Result}
use Rattle.refusals.specs.declared.Refusal.{Refusal}
use mathlib.Core.Path.{◌≡◌, sym, ◌∙◌, ap}
use Prim.Native.Nat.{ℕ}
use native.Mathlib.Omega.{arith}
use Rattle.refusals.proofs.Said.{same_refusal}
use Rattle.decode_sheet.specs.Promise.{Outcome, said, OnlyOne}
use Rattle.decode_sheet.specs.Program.{OnlyOnePrinted}

-- what is said tells the answer
said_tells : (a b : Result ℕ Refusal) → said a ≡ said b → a ≡ b
said_tells (Ok m) (Ok n) h = cc
said_tells (Ok m) (Err why) h = let z : ◌≡◌ {A = ℕ} 0 1 = cc in absurd (omega arith)
said_tells (Err why) (Ok n) h = let z : ◌≡◌ {A = ℕ} 0 1 = cc in absurd (omega arith)
said_tells (Err why) (Err other) h = ap Err (same_refusal h)

pub only_one : OnlyOne
only_one given before o p h k = rebuilt (said_tells o.answer p.answer (h.answers ∙ sym k.answers)) (h.fills_line ∙ sym k.fills_line)
  where
    rebuilt : o.answer ≡ p.answer → o.line ≡ p.line → o ≡ p
    rebuilt a l =
        let e : ◌≡◌ {A = Outcome} (record { answer = o.answer; line = o.line }) (record { answer = p.answer; line = p.line }) = rw (a, l) in
        e

pub only_one_printed : OnlyOnePrinted
only_one_printed bytes before m n p q h k = (h.counted ∙ sym k.counted, h.written ∙ sym k.written)
