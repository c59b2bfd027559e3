-- The bytes that pieces make: the same text as their lines, cut at tabs and line feeds. Assumes nothing.
use Rattle.std.specs.Prelude.{◌≡◌, Bool, true, false, List, [], ◌∷◌, ◌++◌, ℕ}
use Rattle.layout.specs.Layout.{Bytes, Line, escaped, scale_text, text_of, Name, KeptText, SoundText}
use Rattle.text_tables.specs.Pieces.{Piece, blank, label, attribute, pieces_of}
use Rattle.pieces.specs.declared.Kind.{Kind}
use Rattle.pieces.specs.declared.Kind.TheVariants.{Blank, Label, Attribute}

abbrev pub kind_of : Piece → Kind
kind_of blank = Blank
kind_of (label n) = Label
kind_of (attribute a) = Attribute

-- the kind of a line's first piece: an empty line has no name
abbrev pub line_kind_of : Bool → Kind
line_kind_of true = Blank
line_kind_of false = Label

-- a piece's name, empty for an empty line; its kept text, empty where there is none
abbrev pub name_in : Piece → Bytes
name_in blank = []
name_in (label n) = n
name_in (attribute a) = a.name

abbrev pub kept_in : Piece → Bytes
kept_in blank = []
kept_in (label n) = []
kept_in (attribute a) = a.scale

abbrev pub is_field : Piece → Bool
is_field blank = false
is_field (label n) = false
is_field (attribute a) = true

abbrev pub piece_text : Piece → Bytes
piece_text p = escaped (name_in p) ++ scale_text (kept_in p)

-- the byte in front of a piece: a tab before an attribute, else a line feed
abbrev pub parting : Piece → ℕ
parting blank = 10
parting (label n) = 10
parting (attribute a) = 9

-- each piece behind the byte that parts it from the one before
unfoldable pub more_text : List Piece → Bytes
more_text [] = []
more_text (p ∷ rest) = parting p ∷ (piece_text p ++ more_text rest)

unfoldable pub pieces_text : List Piece → Bytes
pieces_text [] = []
pieces_text (p ∷ rest) = piece_text p ++ more_text rest

abbrev pub SoundPiece : Piece → Type 0
SoundPiece blank = Unit {0}
SoundPiece (label n) = Name n
SoundPiece (attribute a) = Name a.name × KeptText a.scale

abbrev pub SoundPieces : List Piece → Type 0
SoundPieces [] = Unit {0}
SoundPieces (p ∷ rest) = SoundPiece p × SoundPieces rest

-- lines and their pieces make the same text
abbrev pub SameText : Type 0
SameText = (ls : List Line) → SoundText ls → pieces_text (pieces_of ls) ≡ text_of ls
