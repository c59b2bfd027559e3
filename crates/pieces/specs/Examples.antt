-- Pieces and names of the desk, computed. Assumes nothing.
use Rattle.std.specs.Prelude.{◌≡◌, refl, List, [], ◌∷◌}
use Rattle.layout.specs.Layout.{Line, empty, word, escaped, scale_text, attributes_text, line_text, more_lines, text_of}
use Rattle.text_tables.specs.Pieces.{Piece, blank, label, attribute, pieces_of}
use Rattle.pieces.specs.PieceText.{more_text, pieces_text}
use Rattle.pieces.specs.Unescaped.{unescaped_from, unescaped}

-- `A␉b:1␉c␊`
abbrev lines : List Line
lines =
    word (record { label = 65 ∷ []; attributes = record { name = 98 ∷ []; scale = 49 ∷ [] } ∷ record { name = 99 ∷ []; scale = [] } ∷ [] }) ∷ empty ∷ []

abbrev pieces : List Piece
pieces =
    label (65 ∷ []) ∷ attribute (record { name = 98 ∷ []; scale = 49 ∷ [] }) ∷ attribute (record { name = 99 ∷ []; scale = [] }) ∷ blank ∷ []

its_pieces : pieces_of lines ≡ pieces
unfolding pieces_of
its_pieces = refl

its_text : (pieces_text pieces ≡ 65 ∷ 9 ∷ 98 ∷ 58 ∷ 49 ∷ 9 ∷ 99 ∷ 10 ∷ []) × (text_of lines ≡ pieces_text pieces)
unfolding pieces_text more_text escaped scale_text text_of line_text attributes_text more_lines
its_text = (refl, refl)

-- `a\:\\`
a_name : unescaped (97 ∷ 92 ∷ 58 ∷ 92 ∷ 92 ∷ []) ≡ 97 ∷ 58 ∷ 92 ∷ []
unfolding unescaped_from
a_name = refl
