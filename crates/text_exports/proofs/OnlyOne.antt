-- No two different outcomes satisfy one promise. Assumes nothing.
use Rattle.std.specs.Prelude.{Result}
use Rattle.refusals.specs.declared.Refusal.{Refusal}
use Rattle.read_text.specs.declared.TextSizes.{TextSizes}
use mathlib.Core.Path.{◌≡◌, sym, ap, ◌∙◌}
use Rattle.layout.specs.Layout.{Bytes}
use Rattle.write_check.specs.Rows.{Unchecked}
use Rattle.read_text.specs.Promise.{Buffers, Outcome, said}
use Rattle.read_text.proofs.Unique.{only_one}
use Rattle.read_text.proofs.Sized.{one_sizes}
use Rattle.text_exports.specs.declared.ReadText.{ReadText}
use Rattle.text_exports.specs.Numbers.{read_numbers}
use Rattle.text_exports.specs.Promise.{ReadOutcome, Reads, Sizes, WriteOutcome, Writes}

pub one_reading : (text : Bytes) (before : Buffers) (a b : ReadOutcome) → Reads text before a → Reads text before b → a ≡ b
one_reading text before a b p q =
    let same : ◌≡◌ {A = Outcome} (record { answer = p.reading; after = a.after }) (record { answer = q.reading; after = b.after }) = only_one text before _ _ p.promised q.promised in
    let e : a.answer ≡ b.answer = p.answers ∙ ap (λ (o : Outcome). read_numbers (said o.answer)) same ∙ sym q.answers in
    let t : a.after ≡ b.after = ap (λ (o : Outcome). o.after) same in
    λ i. record { answer = e i; after = t i }

pub one_size : (text : Bytes) (a b : ReadText) → Sizes text a → Sizes text b → a ≡ b
one_size text a b p q = p.answers ∙ ap (λ (r : Result TextSizes Refusal). read_numbers (said r)) (one_sizes text p.reading q.reading p.promised q.promised) ∙ sym q.answers

pub one_writing : (given : Unchecked) (before : Bytes) (a b : WriteOutcome) → Writes given before a → Writes given before b → a ≡ b
one_writing given before a b p q =
    let e : a.answer ≡ b.answer = p.answers ∙ sym q.answers in
    let t : a.text ≡ b.text = p.text ∙ sym q.text in
    λ i. record { answer = e i; text = t i }
