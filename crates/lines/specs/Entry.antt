-- Tables as contracts name them: what the references lent to a call hold at its entry. Assumes nothing.
use Rattle.std.specs.Prelude.{List, ℕ, Float}
use Rattle.std.specs.Borrow.{Bor}
use denote.Triple.Both.{Both}
use Rattle.lines.specs.declared.Totals.{Totals}
use Rattle.lines.specs.Tables.{Words}
use Rattle.lines.specs.Data.{Data}

-- a lent table: of numbers, of floats
abbrev pub Numbers : Type 0
Numbers = Bor (List ℕ)

abbrev pub Floats : Type 0
Floats = Bor (List Float)

-- words: how many attributes they have in all, where those of each begin, ids and values
abbrev pub line_of : ℕ → List ℕ → List ℕ → List Float → Words
line_of attributes begins ids values = record { starts = begins; size = attributes; ids = ids; values = values }

-- instances: their starts, then those of the words; ids and values; reference labels; instance weights
abbrev pub data_of : Totals → List ℕ → List ℕ → List ℕ → List Float → List ℕ → List Float → Data
data_of totals lines begins ids values references shares = record {
  instances = totals.instances;
  starts = lines;
  count = totals.words;
  words = line_of totals.attributes begins ids values;
  references = references;
  weights = shares;
}

-- in a `requires`, where the name of a table is the table
abbrev pub line_at : ℕ → Numbers → Numbers → Floats → Words
line_at attributes b i v = line_of attributes b.now i.now v.now

abbrev pub data_at : Totals → Numbers → Numbers → Numbers → Floats → Numbers → Floats → Data
data_at totals l b i v r s = data_of totals l.now b.now i.now v.now r.now s.now

-- and in an `ensures`, where it is the pair of entry and exit
module _ {A B C : Type 0} where
  abbrev pub line_was : ℕ → Both Numbers A → Both Numbers B → Both Floats C → Words
  line_was attributes b i v = line_at attributes b.entry i.entry v.entry

module _ {A B C D E F : Type 0} where
  abbrev pub data_was : Totals → Both Numbers A → Both Numbers B → Both Numbers C → Both Floats D → Both Numbers E → Both Floats F → Data
  data_was totals l b i v r s = data_at totals l.entry b.entry i.entry v.entry r.entry s.entry
