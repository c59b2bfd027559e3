-- Bytes in a lent buffer: stored from a place on, with everything else as it was. Assumes nothing.
use Rattle.std.specs.Prelude.{ℕ, ◌+◌, ◌≤◌, ◌≡◌, List, [], ◌∷◌, ◌++◌, length, drop, set}

-- the bytes of a part, stored one after another from a place on
unfoldable pub stored : List ℕ → ℕ → List ℕ → List ℕ
stored line at [] = line
stored line at (byte ∷ part) = stored (set line at byte) (at + 1) part

-- there is room for a part from a place on
pub record RoomFor (part line : List ℕ) (at : ℕ) : Type 0 where
  pub room : at + length part ≤ length line

-- a part that was written from a place on: the place after it, and the buffer
pub record Put (part before : List ℕ) (at end : ℕ) (after : List ℕ) : Type 0 where
  pub next : end ≡ at + length part
  pub line : after ≡ stored before at part

-- a whole text that was written to a lent buffer: how long it is, and the buffer with the text in front and its tail unchanged
pub record Written (text before : List ℕ) (count : ℕ) (after : List ℕ) : Type 0 where
  pub counted : count ≡ length text
  pub written : after ≡ text ++ drop (length text) before
