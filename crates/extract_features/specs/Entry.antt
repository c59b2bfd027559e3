-- What counting the features of a line is given, as contracts name it: the tables lent to a call, at its entry. Assumes nothing.
use Rattle.std.specs.Prelude.{ℕ}
use denote.Triple.Both.{Both}
use Rattle.lines.specs.Tables.{Model}
use Rattle.lines.specs.Lent.{with_counts}
use Rattle.lines.specs.Entry.{Numbers, Floats, line_was}
use Rattle.extract_features.specs.Promise.{Given}

-- the rest of a model, and the number of features; kinds, destinations and sources; of each kind of list how many, starts and entries
module _ {A B C D E F G : Type 0} where
  abbrev pub counts_was : Model → ℕ → Both Numbers A → Both Numbers B → Both Numbers C → ℕ → Both Numbers D → Both Numbers E → ℕ → Both Numbers F → Both Numbers G → Model
  counts_was rest features k d s lists a e label_lists_of b f =
      with_counts rest features k.entry.now d.entry.now s.entry.now lists a.entry.now e.entry.now label_lists_of b.entry.now f.entry.now

-- the model, T, the number of attributes, where those of each word begin, ids and values, and a label for each word
module _ {A B C D : Type 0} where
  abbrev pub given_was : Model → ℕ → ℕ → Both Numbers A → Both Numbers B → Both Floats C → Both Numbers D → Given
  given_was model words attributes b i v p = record { model = model; words = words; line = line_was attributes b i v; path = p.entry.now }
