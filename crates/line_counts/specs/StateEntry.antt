-- What counts of State features look at, as contracts name it: the tables lent to a call. Assumes nothing.
use Rattle.std.specs.Prelude.{List, [], ℕ}
use denote.Triple.Both.{Both}
use Rattle.lines.specs.Tables.{Model}
use Rattle.lines.specs.Lent.{bare, with_counts}
use Rattle.lines.specs.Entry.{Numbers}

-- the number of features; kinds and destinations; the attribute lists: how many, their starts and entries; at entry
module _ {A B C : Type 0} where
  abbrev pub state_counts_was : ℕ → Both Numbers A → Both Numbers B → ℕ → List ℕ → Both Numbers C → Model
  state_counts_was features k d lists starts e = with_counts bare features k.entry.now d.entry.now [] lists starts e.entry.now 0 [] []
