-- What the row of 2 gives the rows after it. Assumes nothing.
use Rattle.std.specs.Prelude.{Ok}
use mathlib.Core.Path.{◌≡◌}
use mathlib.Core.List.{List}
use Prim.Native.Nat.{ℕ}
use lib.Ieee.{Float}
use Rattle.refusals.specs.Refusals.{Checked, or_next_of}
use Rattle.refusals.proofs.Laws.{both}
use Rattle.score_tables.specs.Rows.{scores_short}
use Rattle.score_tables.specs.Sound.{ScoresRoom}
use Rattle.score_tables.proofs.Laws as tables

-- 2 accepts: the tables have room, whatever was tested around it
pub room : (bounds last : Checked) (labels words : ℕ) (transitions states : List Float) → or_next_of (or_next_of bounds (scores_short labels words transitions states)) last ≡ Ok tt → ScoresRoom labels words transitions states
room bounds last labels words transitions states h = tables.room (both bounds (scores_short labels words transitions states) (both (or_next_of bounds (scores_short labels words transitions states)) last h).0).1
