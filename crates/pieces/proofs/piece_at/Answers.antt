-- `pieces::piece_at` meets its contract. Assumes nothing.
use mathlib.Core.Path.{refl}
use Rattle.pieces.proofs.Found.{name_ahead, found_attribute, found_line}
use Rattle.pieces.proofs.piece_at.Goals as goal

pub name_end-split-requires : goal.name_end-split-requires
name_end-split-requires c = name_ahead c.requires

pub returns-then-cursor : goal.returns-then-cursor
returns-then-cursor c =
    found_attribute _ _ c.if-cursor.true refl refl c.name_end-split.ensures c.scale_end.ensures

pub returns : goal.returns
returns c =
    found_line _ _ c.if-cursor.false c.line_kind.ensures refl c.name_end-split.ensures refl
