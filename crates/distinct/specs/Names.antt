-- Names as they stand in the text, escapes and all. "Every name is written in one way only", so two fields name the same thing
-- exactly where these bytes are equal. Assumes nothing.
use Rattle.std.specs.Prelude.{◌≡◌, Bool, true, false, cond, List, [], ◌∷◌, map, ℕ, ◌≤◌, ◌<◌, eqb, length, get_or, take, drop}
use Rattle.layout.specs.Layout.{Bytes}
use Rattle.text_tables.specs.Distinct.{id_in, learnt}
use Rattle.pieces.specs.Standing.{ends_name_of, name_ends, Named}

-- a name may end before this place
unfoldable pub ends_at : Bytes → ℕ → Bool
ends_at text at = name_ends (drop at text)

-- what is left of a name, behind a backslash or not
unfoldable pub raw_from : Bool → Bytes → Bytes
raw_from behind [] = []
raw_from true (b ∷ text) = b ∷ raw_from false text
raw_from false (b ∷ text) = cond (ends_name_of b) [] (b ∷ raw_from (eqb b 92) text)

-- the name that a text begins with
abbrev pub raw_name : Bytes → Bytes
raw_name text = raw_from false text

-- the name at a place
unfoldable pub name_at : Bytes → ℕ → Bytes
name_at text at = raw_name (drop at text)

-- the names at the first so many of some places
unfoldable pub names_at : Bytes → List ℕ → ℕ → List Bytes
names_at text positions count = map (name_at text) (take count positions)

-- some name stands from one place up to another
abbrev pub NameStands : Bytes → ℕ → ℕ → Type 0
NameStands text from to = (name : Bytes) × Named text from to name

-- so many places, and all of them in the text
pub record Listed (text : Bytes) (positions : List ℕ) (count : ℕ) : Type 0 where
  pub room : count ≤ length positions
  pub inside : (v : ℕ) → v < count → get_or positions v 0 ≤ length text

-- the names known are those at the places, the name with id v at the v-th
pub record Known (text : Bytes) (positions : List ℕ) (count : ℕ) (known : List Bytes) : Type 0 where
  pub listed : Listed text positions count
  pub names : names_at text positions count ≡ known

-- what a label more leaves: its id, and the names known with it
pub record LearntLabel (text : Bytes) (known : List Bytes) (name : Bytes) (positions : List ℕ) (id : ℕ) : Type 0 where
  pub first : id ≡ id_in known name
  pub knows : Known text positions (length (learnt known name)) (learnt known name)
