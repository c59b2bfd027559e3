-- The piece at a cursor, by what the code has tested. Assumes nothing.
use mathlib.Core.Path.{◌≡◌, refl, sym, ap, ◌∙◌}
use mathlib.Core.Bool.{true, false, true≢false, false≢true}
use mathlib.Core.List.{List, [], ◌∷◌}
use Prim.Native.Nat.{ℕ}
use native.Mathlib.Omega.{arith}
use lib.Dec.{eqb}
use lib.ListN.{length}
use borrow.Author.Tests.{eq-eqb, ne_eqb}
use Rattle.layout.specs.Layout.{Bytes, scale_text}
use Rattle.text_tables.specs.Pieces.{Piece, blank, label, attribute}
use Rattle.pieces.specs.declared.Kind.TheVariants.{Attribute}
use Rattle.pieces.specs.declared.Cursor.{Cursor}
use Rattle.pieces.specs.declared.Span.{Span}
use Rattle.pieces.specs.PieceText.{line_kind_of}
use Rattle.pieces.specs.Standing.{Named, SomeName, Fielded, PiecesAhead, SomePieceAhead, PieceMet, Finds}
use Rattle.pieces.proofs.Names.{escaped_nil, escaped_some}
use Rattle.pieces.proofs.Walk.{ahead_named, ahead_fielded, met}

-- what the code knows of the name's end
abbrev pub Split : Bytes → Cursor → ℕ → Type 0
Split text c split = (to : ℕ) (name : Bytes) → Named text c.at to name → split ≡ to

pub name_ahead : {text : Bytes} {c : Cursor} → SomePieceAhead text c → SomeName text c.at
name_ahead a = (_, _, ahead_named a.2)

bare : length (scale_text []) ≡ 0
unfolding scale_text
bare = refl

pub found_attribute : {text : Bytes} (c : Cursor) (s : Span) → c.field ≡ true → s.kind ≡ Attribute → s.from ≡ c.at → Split text c s.split
    → ((to : ℕ) → Fielded text s.split to → s.to ≡ to) → Finds text c s
found_attribute {text} c s f k e split to = record { met = go }
  where
    go : (p : Piece) (rest : List Piece) → PiecesAhead text c (p ∷ rest) → PieceMet text c s p rest
    go blank rest a = absurd (true≢false (sym f ∙ a.field))
    go (label n) rest a = absurd (true≢false (sym f ∙ a.field))
    go (attribute b) rest a = met s a k e (split _ _ (ahead_named a)) (to _ (ahead_fielded a (split _ _ (ahead_named a))))

pub found_line : {text : Bytes} (c : Cursor) (s : Span) → c.field ≡ false → s.kind ≡ line_kind_of (eqb s.split c.at) → s.from ≡ c.at → Split text c s.split → s.to ≡ s.split
    → Finds text c s
found_line {text} c s f k e split to = record { met = go }
  where
    go : (p : Piece) (rest : List Piece) → PiecesAhead text c (p ∷ rest) → PieceMet text c s p rest
    go blank rest a =
        let h : s.split ≡ c.at = split _ _ (ahead_named a) ∙ omega (arith, ap length escaped_nil) in
        met s a (k ∙ ap line_kind_of (eq-eqb s.split c.at h)) e (split _ _ (ahead_named a)) (omega (arith, to, bare))
    go (label []) rest a = absurd a.sound.0
    go (label (b ∷ n)) rest a =
        let h : s.split ≡ c.at → ⊥ = λ z. omega (arith, z, split _ _ (ahead_named a), escaped_some b n) in
        met s a (k ∙ ap line_kind_of (ne_eqb s.split c.at h)) e (split _ _ (ahead_named a)) (omega (arith, to, bare))
    go (attribute b) rest a = absurd (false≢true (sym f ∙ a.field))
