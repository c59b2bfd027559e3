-- Lines and their pieces make the same text, and sound lines have sound pieces. Assumes nothing.
use mathlib.Core.Path.{◌≡◌, refl, sym, ap, ◌∙◌}
use mathlib.Core.Bool.{false}
use mathlib.Core.List.{List, [], ◌∷◌, ◌++◌, map, append-nil, append_assoc}
use Rattle.layout.specs.Layout.{Bytes, TextAttribute, Line, empty, word, escaped, scale_text, attributes_text, line_text, more_lines, text_of, SoundAttributes, SoundTextLine, EachSound, SoundText}
use Rattle.text_tables.specs.Pieces.{Piece, attribute, line_pieces, pieces_of}
use Rattle.pieces.specs.PieceText.{piece_text, parting, more_text, pieces_text, SoundPieces, SameText}
use Rattle.pieces.specs.Standing.{none_left, field_first}

more_cons : (p : Piece) (rest : List Piece) → more_text (p ∷ rest) ≡ parting p ∷ (piece_text p ++ more_text rest)
unfolding more_text
more_cons p rest = refl

more_append : (ps qs : List Piece) → more_text (ps ++ qs) ≡ more_text ps ++ more_text qs
unfolding more_text
more_append [] qs = refl
more_append (p ∷ ps) qs =
    ap (λ (t : Bytes). parting p ∷ (piece_text p ++ t)) (more_append ps qs)
    ∙ ap (λ (t : Bytes). parting p ∷ t) (sym (append_assoc (piece_text p) (more_text ps) (more_text qs)))

-- the attributes of a word
attributes_more : (l : List TextAttribute) → more_text (map attribute l) ≡ attributes_text l
unfolding more_text attributes_text
attributes_more [] = refl
attributes_more (a ∷ l) = ap (λ (t : Bytes). 9 ∷ ((escaped a.name ++ scale_text a.scale) ++ t)) (attributes_more l)

no_scale : (t : Bytes) → t ++ scale_text [] ≡ t
unfolding scale_text
no_scale t = append-nil t

-- a line's pieces, in front of others
line_front : (l : Line) (rest : List Piece) → pieces_text (line_pieces l ++ rest) ≡ line_text l ++ more_text rest
unfolding pieces_text line_text escaped scale_text
line_front empty rest = refl
line_front (word w) rest =
    ap (λ (t : Bytes). (escaped w.label ++ scale_text []) ++ t) (more_append (map attribute w.attributes) rest ∙ ap (λ (t : Bytes). t ++ more_text rest) (attributes_more w.attributes))
    ∙ ap (λ (t : Bytes). t ++ (attributes_text w.attributes ++ more_text rest)) (no_scale (escaped w.label))
    ∙ sym (append_assoc (escaped w.label) (attributes_text w.attributes) (more_text rest))

line_more : (l : Line) (rest : List Piece) → more_text (line_pieces l ++ rest) ≡ 10 ∷ pieces_text (line_pieces l ++ rest)
unfolding more_text pieces_text
line_more empty rest = refl
line_more (word w) rest = refl

lines_more : (ls : List Line) → more_text (pieces_of ls) ≡ more_lines ls
lines_more [] = nil
  where
    nil : more_text (pieces_of []) ≡ more_lines []
    nil = unfold more_text pieces_of more_lines in refl
lines_more (l ∷ ls) =
    parts ∙ line_more l (pieces_of ls) ∙ ap (λ (t : Bytes). 10 ∷ t) (line_front l (pieces_of ls) ∙ ap (λ (t : Bytes). line_text l ++ t) (lines_more ls)) ∙ made
  where
    parts : more_text (pieces_of (l ∷ ls)) ≡ more_text (line_pieces l ++ pieces_of ls)
    parts = unfold pieces_of in refl

    made : 10 ∷ (line_text l ++ more_lines ls) ≡ more_lines (l ∷ ls)
    made = unfold more_lines in refl

pub same_text : SameText
same_text [] s = absurd s
same_text (l ∷ ls) s = parts ∙ line_front l (pieces_of ls) ∙ ap (λ (t : Bytes). line_text l ++ t) (lines_more ls) ∙ made
  where
    parts : pieces_text (pieces_of (l ∷ ls)) ≡ pieces_text (line_pieces l ++ pieces_of ls)
    parts = unfold pieces_of in refl

    made : line_text l ++ more_lines ls ≡ text_of (l ∷ ls)
    made = unfold text_of in refl

sound_append : (ps qs : List Piece) → SoundPieces ps → SoundPieces qs → SoundPieces (ps ++ qs)
sound_append [] qs g h = h
sound_append (p ∷ ps) qs g h = (g.0, sound_append ps qs g.1 h)

sound_attributes : (l : List TextAttribute) → SoundAttributes l → SoundPieces (map attribute l)
sound_attributes [] g = tt
sound_attributes (a ∷ l) g = ((g.0, g.1), sound_attributes l g.2)

sound_line : (l : Line) → SoundTextLine l → SoundPieces (line_pieces l)
sound_line empty g = (tt, tt)
sound_line (word w) g = (g.0, sound_attributes w.attributes g.1)

pub sound_pieces : (ls : List Line) → EachSound ls → SoundPieces (pieces_of ls)
unfolding pieces_of
sound_pieces [] g = tt
sound_pieces (l ∷ ls) g = sound_append (line_pieces l) (pieces_of ls) (sound_line l g.0) (sound_pieces ls g.1)

-- the first piece of sound lines begins a line
pub some_first : (ls : List Line) → SoundText ls → none_left (pieces_of ls) ≡ false
unfolding pieces_of
some_first [] s = absurd s
some_first (empty ∷ ls) s = refl
some_first (word w ∷ ls) s = refl

pub line_first : (ls : List Line) → SoundText ls → field_first (pieces_of ls) ≡ false
unfolding pieces_of
line_first [] s = absurd s
line_first (empty ∷ ls) s = refl
line_first (word w ∷ ls) s = refl
