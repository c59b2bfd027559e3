-- What scoring a line is given and lent, as contracts name it. Assumes nothing.
use Rattle.std.specs.Prelude.{List, ℕ, Float}
use denote.Triple.Both.{Both}
use Rattle.lines.specs.Tables.{Model}
use Rattle.lines.specs.Entry.{Numbers, Floats, line_at}
use Rattle.compute_scores.specs.Promise.{Given, Buffers}

-- the buffers, at a call's entry
abbrev pub buffers_of : List Float → List Float → Buffers
buffers_of transitions states = record { transitions = transitions; states = states }

-- in a `requires`: the model and its weights, T, the number of attributes, where those of each word begin, ids and values
abbrev pub given_at : Model → Floats → ℕ → ℕ → Numbers → Numbers → Floats → Given
given_at model w words attributes b i v = record { model = model; weights = w.now; words = words; line = line_at attributes b i v }

-- and in an `ensures`
module _ {A B C D : Type 0} where
  abbrev pub given_was : Model → Both Floats A → ℕ → ℕ → Both Numbers B → Both Numbers C → Both Floats D → Given
  given_was model w words attributes b i v = given_at model w.entry words attributes b.entry i.entry v.entry
