-- A table of slots that finds the id of a name: open addressing. A slot is 0 where it is free, else an id and one. Assumes nothing.
use Rattle.std.specs.Prelude.{◌≡◌, Bool, cond, ◌||◌, List, [], ◌∷◌, ℕ, zero, suc, ◌+◌, ◌-◌, ◌*◌, ◌/◌, ◌%◌, ◌≤◌, ◌<◌, eqb, length, get_or}
use Rattle.layout.specs.Layout.{Bytes}
use Rattle.text_tables.specs.Distinct.{same, id_in, learnt}
use Rattle.distinct.specs.Names.{Listed, Known}

-- a number of 32 bits for some bytes, behind one for those before them
unfoldable pub hashed : ℕ → Bytes → ℕ
hashed h [] = h
hashed h (b ∷ name) = hashed ((h * 16777619 + b) % 4294967296) name

-- where a name's search begins among so many slots: names that differ in the last byte alone begin far from each other
unfoldable pub home : ℕ → Bytes → ℕ
home size name = hashed 0 name * 2654435769 % 4294967296 * size / 4294967296

-- the slot of each step: one after the other, the first behind the last
abbrev pub slot_at : ℕ → Bytes → ℕ → ℕ
slot_at size name k = (home size name + k) % size

-- whether a step ends the search: its slot is free, or has the id of the name
unfoldable pub ends_search : ℕ → List Bytes → List ℕ → Bytes → ℕ → Bool
ends_search size known slots name k = eqb (get_or slots (slot_at size name k) 0) 0 || same (get_or known (get_or slots (slot_at size name k) 0 - 1) []) name

-- the first step at which a test holds, from k on with so many left; the one behind them where there is none
unfoldable pub first_step : (ℕ → Bool) → ℕ → ℕ → ℕ
first_step test zero k = k
first_step test (suc left) k = cond (test k) k (first_step test left (k + 1))

-- where the search for a name ends
unfoldable pub slot_for : ℕ → List Bytes → List ℕ → Bytes → ℕ
slot_for size known slots name = slot_at size name (first_step (ends_search size known slots name) size 0)

-- how many slots are in use
unfoldable pub used : List ℕ → ℕ
used [] = 0
used (zero ∷ slots) = used slots
used (suc v ∷ slots) = suc (used slots)

-- the names are filed: as many slots are in use as names are known, none holds more, and each name is found
pub record Filed (size : ℕ) (known : List Bytes) (slots : List ℕ) : Type 0 where
  pub long : length slots ≡ size
  pub count : used slots ≡ length known
  pub low : (i : ℕ) → get_or slots i 0 ≤ length known
  pub finds : (v : ℕ) → v < length known → get_or slots (slot_for size known slots (get_or known v [])) 0 ≡ suc v

-- what a search asks: slots, few enough for the home's arithmetic, that name places in the text
pub record Searchable (text : Bytes) (slots positions : List ℕ) (count : ℕ) : Type 0 where
  pub some : 0 < length slots
  pub few : length slots ≤ 4294967295
  pub low : (i : ℕ) → get_or slots i 0 ≤ count
  pub listed : Listed text positions count

-- what a name's id asks: names that are known and filed, and a slot that is free
pub record Tabled (text : Bytes) (slots positions : List ℕ) (count : ℕ) : Type 0 where
  pub known : List Bytes
  pub knows : Known text positions count known
  pub filed : Filed (length slots) known slots
  pub free : count < length slots
  pub few : length slots ≤ 4294967295

-- what a name more leaves: its id, and the names known with it, filed
pub record LearntName (text : Bytes) (known : List Bytes) (name : Bytes) (slots positions : List ℕ) (id : ℕ) : Type 0 where
  pub first : id ≡ id_in known name
  pub knows : Known text positions (length (learnt known name)) (learnt known name)
  pub filed : Filed (length slots) (learnt known name) slots
