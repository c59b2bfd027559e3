-- The pieces of a text in their order: what a reader meets. Assumes nothing.
use Rattle.std.specs.Prelude.{List, [], ◌∷◌, ◌++◌, map}
use Rattle.layout.specs.Layout.{Bytes, TextAttribute, Line, empty, word}

-- an empty line, a word's label, an attribute with its kept text
pub data Piece : Type 0 where
  blank : Piece
  label : Bytes → Piece
  attribute : TextAttribute → Piece

abbrev pub line_pieces : Line → List Piece
line_pieces empty = blank ∷ []
line_pieces (word w) = label w.label ∷ map attribute w.attributes

unfoldable pub pieces_of : List Line → List Piece
pieces_of [] = []
pieces_of (l ∷ ls) = line_pieces l ++ pieces_of ls

-- what a pass has after each of some pieces, one after the other
unfoldable pub after_each : {S A : Type 0} → (S → A → S) → S → List A → S
after_each step s [] = s
after_each step s (x ∷ xs) = after_each step (step s x) xs
