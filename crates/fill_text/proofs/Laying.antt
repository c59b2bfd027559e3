-- Fronts that grow in a lent table, by one entry or by some bytes. Assumes nothing.
use mathlib.Core.Path.{◌≡◌, refl, sym, ap, ◌∙◌}
use mathlib.Core.Bool.{Bool, true, false}
use mathlib.Core.List.{List, [], ◌∷◌, ◌++◌, append-nil, append_assoc}
use Prim.Native.Nat.{ℕ, ◌+◌, ◌-◌, ◌≤◌, ◌<◌}
use native.Mathlib.Omega.{arith}
use lib.Dec.{eqb}
use lib.ListN.{length, take, drop, length-append, length-drop, drop_of_length-le}
use lib.Seq.{slice, length-take-le}
use borrow.Author.Tests.{eqb-true, eqb-false}
use Rattle.layout.specs.Layout.{Bytes}
use Rattle.text_tables.specs.Laid.{laid}
use Rattle.text_tables.specs.Pieces.{Piece}
use Rattle.text_tables.proofs.Ends.{laid_more}
use Rattle.text_tables.proofs.Tallied.{more_length}
use Rattle.byte_buffers.specs.Stored.{stored}
use Rattle.pieces.specs.declared.Span.{Span}
use Rattle.pieces.specs.PieceText.{kept_in}
use Rattle.pieces.specs.Standing.{Stands}
use Rattle.pieces.proofs.Parts.{slice_lent}
use Rattle.pieces.proofs.Spans.{kept_lent, kept_none}

laid_long : {A : Type 0} (built before : List A) {t : List A} → t ≡ laid built before → length t ≡ length built + (length before - length built)
unfolding laid
laid_long built before e = ap length e ∙ length-append built (drop (length built) before) ∙ ap (λ (k : ℕ). length built + k) (length-drop (length built) before)

-- room in the table as it is, for one entry more, is room in the table as it was
pub laid_room : {A : Type 0} (built before : List A) (i : ℕ) {t : List A} → t ≡ laid built before → i ≡ length built → i < length t → i < length before
laid_room built before i e p h = let l = laid_long built before e in omega (arith, l, p, h)

-- some bytes more
pub laid_put : (built before run : List ℕ) (at : ℕ) {t : List ℕ} → t ≡ laid built before → at ≡ length built → at + length run ≤ length before → stored t at run ≡ laid (built ++ run) before
unfolding stored
laid_put built before [] at e p h = e ∙ ap (λ (x : List ℕ). laid x before) (sym (append-nil built))
laid_put built before (b ∷ run) at e p h =
    laid_put (built ++ (b ∷ [])) before run (at + 1) (laid_more built before at b e p (omega (arith, h))) (ap (λ (k : ℕ). k + 1) p ∙ sym (more_length built b)) (omega (arith, h))
    ∙ ap (λ (x : List ℕ). laid x before) (append_assoc built (b ∷ []) run)

-- the same, with room in the table as it is
pub laid_put_in : (built before run : List ℕ) (at : ℕ) {t : List ℕ} → t ≡ laid built before → at ≡ length built → at + length run ≤ length t → stored t at run ≡ laid (built ++ run) before
unfolding stored
laid_put_in built before [] at e p h = e ∙ ap (λ (x : List ℕ). laid x before) (sym (append-nil built))
laid_put_in built before (b ∷ run) at e p h = let l = laid_long built before e in laid_put built before (b ∷ run) at e p (omega (arith, l, p, h))

-- ---- a kept text
pub past : (text : Bytes) (i to : ℕ) → to ≤ length text → to ≤ i → slice i to text ≡ []
past text i to h k = drop_of_length-le (take to text) {i = i} (let l = length-take-le to text h in omega (arith, l, k))

-- the kept text stands behind the colon; without a scale there is nothing
pub kept_slice : {text : Bytes} {s : Span} {p : Piece} → Stands text s p → slice (s.split + 1) s.to text ≡ kept_in p
kept_slice {text} {s} {p} g = go (eqb s.split s.to) refl
  where
    go : (x : Bool) → eqb s.split s.to ≡ x → slice (s.split + 1) s.to text ≡ kept_in p
    go true e =
        let q = eqb-true s.split s.to e in
        past text (s.split + 1) s.to g.inside (omega (arith, q)) ∙ sym (kept_none g q)
    go false e =
        let d = eqb-false s.split s.to e in
        slice_lent text (s.split + 1) s.to ∙ kept_lent g (omega (arith, d, g.low))
