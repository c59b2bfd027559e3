-- `pieces::after` meets its contract. Assumes nothing.
use mathlib.Core.Path.{refl}
use Rattle.pieces.proofs.Walk.{followed, followed_past}
use Rattle.pieces.proofs.after.Goals as goal

pub returns-then-to-text : goal.returns-then-to-text
returns-then-to-text c = followed _ _ _ refl refl

pub returns : goal.returns
returns c = followed_past _ _ _ c.if-to-text.false refl refl
