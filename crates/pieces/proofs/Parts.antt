-- Parts of a text, from one place to another. Assumes nothing.
use mathlib.Core.Path.{◌≡◌, sym, ap, ◌∙◌}
use mathlib.Core.List.{[], ◌∷◌, ◌++◌}
use Prim.Native.Nat.{ℕ, zero, suc, ◌+◌, ◌-◌, ◌≤◌, ◌<◌}
use native.Mathlib.Numerals.{add-one}
use native.Mathlib.Omega.{arith}
use lib.ListN.{length, take, drop, get_or, length-drop, length-append, take-append-drop}
use lib.Seq.{drop-cons, drop-drop, take-nil, take-append_seam, drop-append_seam, slice, length-slice}
use Rattle.layout.specs.Layout.{Bytes}

pub here : (text : Bytes) (i : ℕ) → i < length text → drop i text ≡ get_or text i 0 ∷ drop (i + 1) text
here text i h = drop-cons text i 0 h ∙ ap (λ (k : ℕ). get_or text i 0 ∷ drop k text) (sym (add-one i))

-- a part as a slice of a slice is lent
pub slice_lent : (text : Bytes) (from to : ℕ) → slice from to text ≡ take (to - from) (drop from text)
slice_lent text zero to = ap (λ (k : ℕ). take k text) e
  where
    e : to ≡ to - 0
    e = omega arith
slice_lent [] (suc from) to = ap (drop (suc from)) (take-nil to) ∙ sym (take-nil (to - suc from))
slice_lent (b ∷ text) (suc from) zero = ap (λ (k : ℕ). take k (drop from text)) e
  where
    e : 0 ≡ 0 - suc from
    e = omega arith
slice_lent (b ∷ text) (suc from) (suc to) = slice_lent text from to ∙ ap (λ (k : ℕ). take k (drop from text)) e
  where
    e : to - from ≡ suc to - suc from
    e = omega arith

pub slice_length : (text : Bytes) (from to : ℕ) → from ≤ to → to ≤ length text → to - from ≡ length (slice from to text)
slice_length text from to h k = sym (length-slice from to text k)

-- a part and what comes behind it
pub slice_front : (text : Bytes) (from to : ℕ) → from ≤ to → drop from text ≡ slice from to text ++ drop to text
slice_front text from to h =
    sym (take-append-drop (to - from) (drop from text))
    ∙ ap (λ (t : Bytes). t ++ drop (to - from) (drop from text)) (sym (slice_lent text from to))
    ∙ ap (λ (t : Bytes). slice from to text ++ t) (drop-drop (to - from) from text ∙ ap (λ (k : ℕ). drop k text) e)
  where
    e : from + (to - from) ≡ to
    e = omega (arith, h)

pub part_of : (text : Bytes) (a b : ℕ) (x y : Bytes) → drop a text ≡ x ++ y → b ≡ a + length x → slice a b text ≡ x
part_of text a b x y e h = slice_lent text a b ∙ ap (λ (k : ℕ). take k (drop a text)) width ∙ ap (take (length x)) e ∙ take-append_seam x y
  where
    width : b - a ≡ length x
    width = omega (arith, h)

pub drop_past : (text : Bytes) (a b : ℕ) (x y : Bytes) → drop a text ≡ x ++ y → b ≡ a + length x → drop b text ≡ y
drop_past text a b x y e h = ap (λ (k : ℕ). drop k text) h ∙ sym (drop-drop (length x) a text) ∙ ap (drop (length x)) e ∙ drop-append_seam x y

pub fits : (text : Bytes) (a : ℕ) (x y : Bytes) → a ≤ length text → drop a text ≡ x ++ y → a + length x ≤ length text
fits text a x y h e = let l = sym (length-drop a text) ∙ ap length e ∙ length-append x y in omega (arith, l, h)
