-- What state scores look at, as contracts name it: the tables lent to a call, at its entry. Assumes nothing.
use Rattle.std.specs.Prelude.{List, ℕ}
use denote.Triple.Both.{Both}
use Rattle.lines.specs.Tables.{Model}
use Rattle.lines.specs.Lent.{with_states}
use Rattle.lines.specs.Entry.{Numbers}

-- the rest of a model, L and the number of features; kinds and destinations; the attribute lists: how many, their starts and entries
module _ {A B C : Type 0} where
  abbrev pub states_was : Model → ℕ → ℕ → Both Numbers A → Both Numbers B → ℕ → List ℕ → Both Numbers C → Model
  states_was rest labels features k d lists starts e = with_states rest labels features k.entry.now d.entry.now lists starts e.entry.now
