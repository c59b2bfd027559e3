-- A pass over the pieces of a text. Assumes nothing.
use Rattle.std.specs.Prelude.{◌≡◌, List}
use Rattle.layout.specs.Layout.{Bytes, WellFormed}
use Rattle.text_tables.specs.Pieces.{Piece, pieces_of, after_each}
use Rattle.pieces.specs.declared.Cursor.{Cursor}
use Rattle.pieces.specs.Standing.{PiecesAhead}

-- a pass has come to the cursor: to go on from here with the pieces ahead gives the same as all of them from the start
pub record Passing {S : Type 0} (step : S → Piece → S) (begin : S) (all : List Piece) (text : Bytes) (c : Cursor) (state : S) : Type 0 where
  pub rest : List Piece
  pub ahead : PiecesAhead text c rest
  pub same : after_each step state rest ≡ after_each step begin all

abbrev pub Passed : {S : Type 0} → (S → Piece → S) → S → Bytes → Cursor → S → Type 0
Passed step begin text c state = (h : WellFormed text) → Passing step begin (pieces_of h.lines) text c state
