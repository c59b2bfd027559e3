-- No two different outcomes satisfy one promise. Assumes nothing.
use mathlib.Core.Path.{◌≡◌, sym, ◌∙◌}
use mathlib.Core.List.{List}
use Prim.Native.Nat.{ℕ}
use Rattle.shuffle.specs.Shuffle.{Deal}
use Rattle.draw_exports.specs.Draws.{Drew, Shuffled, Shuffling}

pub one_draw : (state a b s t : ℕ) → Drew state a s → Drew state b t → (a ≡ b) × (s ≡ t)
one_draw state a b s t p q = (p.draws ∙ sym q.draws, p.advances ∙ sym q.advances)

pub one_shuffle : (state : ℕ) (order : List ℕ) (a b : Shuffled) → Shuffling state order a → Shuffling state order b → a ≡ b
one_shuffle state order a b p q =
    let e : a.answer ≡ b.answer = p.answers ∙ sym q.answers in
    let d : ◌≡◌ {A = Deal} (record { state = a.state; order = a.order }) (record { state = b.state; order = b.order }) = p.deals ∙ sym q.deals in
    λ i. record { answer = e i; state = (d i).state; order = (d i).order }
