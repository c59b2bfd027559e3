-- What transition scores look at, as contracts name it: the tables lent to a call, at its entry. Assumes nothing.
use Rattle.std.specs.Prelude.{List, ℕ}
use denote.Triple.Both.{Both}
use Rattle.lines.specs.Tables.{Model}
use Rattle.lines.specs.Lent.{with_transitions}
use Rattle.lines.specs.Entry.{Numbers}

-- the rest of a model, L and the number of features; kinds, destinations and sources; the label lists: how many, their starts and entries
module _ {A B C D : Type 0} where
  abbrev pub transitions_was : Model → ℕ → ℕ → Both Numbers A → Both Numbers B → Both Numbers C → ℕ → List ℕ → Both Numbers D → Model
  transitions_was rest labels features k d s lists starts e =
      with_transitions rest labels features k.entry.now d.entry.now s.entry.now lists starts e.entry.now
