-- What a span tells of its piece. Assumes nothing.
use mathlib.Core.Path.{◌≡◌, refl, sym, ap, subst, ◌∙◌}
use mathlib.Core.Bool.{false}
use mathlib.Core.List.{[], ◌∷◌, ◌++◌}
use Prim.Native.Nat.{ℕ, ◌+◌, ◌-◌, ◌≤◌, ◌<◌}
use native.Mathlib.Omega.{arith}
use lib.ListN.{length, take, drop}
use lib.Seq.{slice}
use Rattle.layout.specs.Layout.{Bytes, scale_text, Scale, KeptText}
use Rattle.text_tables.specs.Pieces.{Piece, blank, label, attribute}
use Rattle.pieces.specs.declared.Kind.TheVariants.{Blank, Label, Attribute}
use Rattle.pieces.specs.declared.Span.{Span}
use Rattle.pieces.specs.PieceText.{kind_of, name_in, kept_in}
use Rattle.pieces.specs.Standing.{Stands}
use Rattle.pieces.specs.Unescaped.{unescaped}
use Rattle.pieces.proofs.Parts.{slice_lent, slice_length, slice_front, part_of, drop_past}
use Rattle.pieces.proofs.Walk.{kept_sound}
use Rattle.pieces.proofs.Bare.{bare_name, bare_shorter}

-- ---- which piece it is

pub is_blank : (p : Piece) → kind_of p ≡ Blank → p ≡ blank
is_blank blank e = refl
is_blank (label n) e = let z : ◌≡◌ {A = ℕ} 0 1 = cc in absurd (omega (arith, z))
is_blank (attribute a) e = let z : ◌≡◌ {A = ℕ} 0 1 = cc in absurd (omega (arith, z))

pub is_label : (p : Piece) → kind_of p ≡ Label → p ≡ label (name_in p)
is_label blank e = let z : ◌≡◌ {A = ℕ} 0 1 = cc in absurd (omega (arith, z))
is_label (label n) e = refl
is_label (attribute a) e = let z : ◌≡◌ {A = ℕ} 0 1 = cc in absurd (omega (arith, z))

pub is_attribute : (p : Piece) → kind_of p ≡ Attribute → p ≡ attribute (record { name = name_in p; scale = kept_in p })
is_attribute blank e = let z : ◌≡◌ {A = ℕ} 0 1 = cc in absurd (omega (arith, z))
is_attribute (label n) e = let z : ◌≡◌ {A = ℕ} 0 1 = cc in absurd (omega (arith, z))
is_attribute (attribute a) e = refl

-- ---- its name and its kept text

pub name_is : {text : Bytes} {s : Span} {p : Piece} → Stands text s p → unescaped (slice s.from s.split text) ≡ name_in p
name_is g = bare_name g.name

scale_length : (kept : Bytes) (n : ℕ) → length (scale_text kept) ≡ n → (n ≡ 0 → kept ≡ []) × (0 < n → (n ≡ length kept + 1) × (1 ≤ length kept))
unfolding scale_text
scale_length [] n e = ((λ z. refl), (λ z. absurd (omega (arith, e, z))))
scale_length (b ∷ s) n e = ((λ z. absurd (omega (arith, e, z))), (λ z. (omega (arith, e), omega arith)))

size : {text : Bytes} {s : Span} {p : Piece} → Stands text s p → length (scale_text (kept_in p)) ≡ s.to - s.split
size {text} {s} {p} g = ap length (sym g.scale) ∙ sym (slice_length text s.split s.to g.low g.inside)

pub kept_none : {text : Bytes} {s : Span} {p : Piece} → Stands text s p → s.split ≡ s.to → kept_in p ≡ []
kept_none {text} {s} {p} g e = (scale_length (kept_in p) (s.to - s.split) (size g)).0 (omega (arith, e))

pub kept_length : {text : Bytes} {s : Span} {p : Piece} → Stands text s p → s.split < s.to → length (kept_in p) ≡ s.to - (s.split + 1)
kept_length {text} {s} {p} g h =
    let l : s.to - s.split ≡ length (kept_in p) + 1 = ((scale_length (kept_in p) (s.to - s.split) (size g)).1 (omega (arith, h))).0 in
    omega (arith, l, h)

-- what a piece tells is no longer than where it stands
pub kept_fits : {text : Bytes} {s : Span} {p : Piece} → Stands text s p → s.split + length (kept_in p) ≤ s.to
kept_fits {text} {s} {p} g = let l = size g in omega (arith, l, shorter (kept_in p), g.low)
  where
    shorter : (kept : Bytes) → length kept ≤ length (scale_text kept)
    shorter [] = omega arith
    shorter (b ∷ k) = long b k
      where
        long : (b : ℕ) (k : Bytes) → length (b ∷ k) ≤ length (scale_text (b ∷ k))
        long b k = unfold scale_text in (omega arith)

pub name_fits : {text : Bytes} {s : Span} {p : Piece} → Stands text s p → s.from + length (name_in p) ≤ s.split
name_fits {text} {s} {p} g =
    let l = ap length (name_is g) in
    let m = bare_shorter false (slice s.from s.split text) in
    let n = slice_length text s.from s.split g.name.low g.name.inside in
    omega (arith, l, m, n, g.name.low)

-- the kept text as a part of the text that is lent
pub kept_lent : {text : Bytes} {s : Span} {p : Piece} → Stands text s p → s.split < s.to → take (s.to - (s.split + 1)) (drop (s.split + 1) text) ≡ kept_in p
kept_lent {text} {s} {p} g h =
    sym (slice_lent text (s.split + 1) s.to)
    ∙ part_of text (s.split + 1) s.to (kept_in p) (drop s.to text) (behind (kept_in p) (kept_length g h) front) (omega (arith, kept_length g h, h))
  where
    front : drop s.split text ≡ scale_text (kept_in p) ++ drop s.to text
    front = slice_front text s.split s.to g.low ∙ ap (λ (t : Bytes). t ++ drop s.to text) g.scale

    colon : (b : ℕ) (k t : Bytes) → scale_text (b ∷ k) ++ t ≡ (58 ∷ []) ++ ((b ∷ k) ++ t)
    colon b k t = unfold scale_text in refl

    behind : (kept : Bytes) → length kept ≡ s.to - (s.split + 1) → drop s.split text ≡ scale_text kept ++ drop s.to text → drop (s.split + 1) text ≡ kept ++ drop s.to text
    behind [] l e = ap (λ (k : ℕ). drop k text) past
      where
        past : s.split + 1 ≡ s.to
        past = omega (arith, l, h)
    behind (b ∷ k) l e = drop_past text s.split (s.split + 1) (58 ∷ []) ((b ∷ k) ++ drop s.to text) (e ∙ colon b k (drop s.to text)) refl

-- and it is a scale
pub kept_scale : {text : Bytes} {s : Span} {p : Piece} → Stands text s p → s.split < s.to → Scale (take (s.to - (s.split + 1)) (drop (s.split + 1) text))
kept_scale {text} {s} {p} g h = subst Scale (sym (kept_lent g h)) (some (kept_in p) (kept_sound p g.sound) ((scale_length (kept_in p) (s.to - s.split) (size g)).1 (omega (arith, h))).1)
  where
    some : (k : Bytes) → KeptText k → 1 ≤ length k → Scale k
    some [] y e = absurd (omega (arith, e))
    some (b ∷ k) y e = y
