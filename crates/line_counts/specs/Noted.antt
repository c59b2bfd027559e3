-- Counting notes an entry, its feature and its value, and adds the notes later: what the counts are once they are added. Assumes nothing.
use Rattle.std.specs.Prelude.{cond, List, ℕ, ◌≤◌, ◌<◌, eqb, get_or, length, Float}
use Rattle.std.specs.Float.{nan}
use Rattle.lines.specs.Passes.{through, raised}
use Rattle.lines.specs.Tables.{State}

-- a note adds its value to its feature's count, where that is a State
unfoldable pub note_added : (kinds who : List ℕ) (what : List Float) → ℕ → List Float → List Float
note_added kinds who what note counts =
    let i = get_or who note 0 in
    cond (eqb (get_or kinds i 0) State) (raised counts i (get_or what note nan)) counts

-- so many notes, in their order
unfoldable pub notes_added : (kinds who : List ℕ) (what : List Float) → ℕ → List Float → List Float
notes_added kinds who what noted counts = through (note_added kinds who what) 0 noted counts

-- so many notes are there, each of a feature
pub record Notes (features : ℕ) (who : List ℕ) (what : List Float) (noted : ℕ) : Type 0 where
  pub there : noted ≤ length who
  pub level : length who ≤ length what
  pub ids : (note : ℕ) → note < noted → get_or who note 0 < features
