-- Where pieces stand in a text, and what is ahead of a cursor. Assumes nothing.
use Rattle.std.specs.Prelude.{◌≡◌, Bool, true, false, ◌||◌, List, [], ◌∷◌, ◌++◌, ℕ, ◌+◌, ◌≤◌, eqb, ltb, length, drop}
use Rattle.std.proofs.Math.Seq.{slice}
use Rattle.layout.specs.Layout.{Bytes, escaped, scale_text, Clean, WellFormed}
use Rattle.text_tables.specs.Pieces.{Piece, pieces_of}
use Rattle.pieces.specs.declared.Cursor.{Cursor}
use Rattle.pieces.specs.declared.Span.{Span}
use Rattle.pieces.specs.PieceText.{kind_of, name_in, kept_in, is_field, more_text, pieces_text, SoundPiece, SoundPieces}

-- ---- one name, one field

-- a bare tab, line feed or colon ends a name, a tab or a line feed a field; so does the end of the text
abbrev pub ends_name_of : ℕ → Bool
ends_name_of b = (eqb b 9 || eqb b 10) || eqb b 58

abbrev pub name_ends : Bytes → Bool
name_ends [] = true
name_ends (b ∷ text) = ends_name_of b

abbrev pub ends_field_of : ℕ → Bool
ends_field_of b = eqb b 9 || eqb b 10

abbrev pub field_ends : Bytes → Bool
field_ends [] = true
field_ends (b ∷ text) = ends_field_of b

-- a name stands here, escaped, and what is behind ends it
pub record Named (text : Bytes) (from to : ℕ) (name : Bytes) : Type 0 where
  pub clean : Clean name
  pub low : from ≤ to
  pub inside : to ≤ length text
  pub bytes : slice from to text ≡ escaped name
  pub ends : name_ends (drop to text) ≡ true

abbrev pub SomeName : Bytes → ℕ → Type 0
SomeName text from = (to : ℕ) × (name : Bytes) × Named text from to name

-- a field goes on here, and what is behind ends it
pub record Fielded (text : Bytes) (from to : ℕ) : Type 0 where
  pub clean : Clean (slice from to text)
  pub low : from ≤ to
  pub inside : to ≤ length text
  pub ends : field_ends (drop to text) ≡ true

-- ---- pieces

-- a piece stands in the text as a span says: its name from `from` to `split`, then to `to` the colon and the kept text, if there is one
pub record Stands (text : Bytes) (s : Span) (p : Piece) : Type 0 where
  pub kind : s.kind ≡ kind_of p
  pub name : Named text s.from s.split (name_in p)
  pub low : s.split ≤ s.to
  pub inside : s.to ≤ length text
  pub scale : slice s.split s.to text ≡ scale_text (kept_in p)
  pub sound : SoundPiece p

-- these pieces come behind a place where one has ended
pub record Behind (text : Bytes) (to : ℕ) (rest : List Piece) : Type 0 where
  pub inside : to ≤ length text
  pub bytes : drop to text ≡ more_text rest
  pub sound : SoundPieces rest

abbrev pub none_left : List Piece → Bool
none_left [] = true
none_left (p ∷ rest) = false

abbrev pub field_first : List Piece → Bool
field_first [] = false
field_first (p ∷ rest) = is_field p

-- from the cursor on the text holds exactly these pieces; behind the last it stands past the text's end
pub record PiecesAhead (text : Bytes) (c : Cursor) (rest : List Piece) : Type 0 where
  pub inside : c.at ≤ length text + 1
  pub over : ltb (length text) c.at ≡ none_left rest
  pub field : c.field ≡ field_first rest
  pub bytes : drop c.at text ≡ pieces_text rest
  pub sound : SoundPieces rest

abbrev pub SomePieceAhead : Bytes → Cursor → Type 0
SomePieceAhead text c = (p : Piece) × (rest : List Piece) × PiecesAhead text c (p ∷ rest)

-- ---- what is promised

-- the piece at the cursor, and what comes behind it
pub record PieceMet (text : Bytes) (c : Cursor) (s : Span) (p : Piece) (rest : List Piece) : Type 0 where
  pub from : s.from ≡ c.at
  pub stands : Stands text s p
  pub behind : Behind text s.to rest

-- what `piece_at` answers: whichever pieces are ahead, the first of them
pub record Finds (text : Bytes) (c : Cursor) (s : Span) : Type 0 where
  pub met : (p : Piece) (rest : List Piece) → PiecesAhead text c (p ∷ rest) → PieceMet text c s p rest

-- what `after` answers: a cursor further on, with all pieces ahead that come behind the place
pub record Follows (text : Bytes) (to : ℕ) (c : Cursor) : Type 0 where
  pub on : c.at ≡ to + 1
  pub ahead : (rest : List Piece) → Behind text to rest → PiecesAhead text c rest

-- what `start` answers: all pieces of the lines that make the text are ahead
pub record AtStart (text : Bytes) (c : Cursor) : Type 0 where
  pub ahead : (h : WellFormed text) → PiecesAhead text c (pieces_of h.lines)
