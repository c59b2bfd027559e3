-- What counts of Transition features look at, as contracts name it: the tables lent to a call, at its entry. Assumes nothing.
use Rattle.std.specs.Prelude.{List, [], ℕ}
use denote.Triple.Both.{Both}
use Rattle.lines.specs.Tables.{Model}
use Rattle.lines.specs.Lent.{bare, with_counts}
use Rattle.lines.specs.Entry.{Numbers}

-- the number of features; kinds, destinations and sources; the label lists: how many, their starts and entries
module _ {A B C D : Type 0} where
  abbrev pub transition_counts_was : ℕ → Both Numbers A → Both Numbers B → Both Numbers C → ℕ → List ℕ → Both Numbers D → Model
  transition_counts_was features k d s lists starts e = with_counts bare features k.entry.now d.entry.now s.entry.now 0 [] [] lists starts e.entry.now
