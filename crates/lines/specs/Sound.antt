-- What scoring and counting ask of the tables: what is known of them once refusals 2, 3 and 5 have not been given. Assumes nothing.
use Rattle.std.specs.Prelude.{◌≡◌, List, ℕ, ◌+◌, ◌≤◌, ◌<◌, get_or, length, Float}
use Rattle.lines.specs.Passes.{start}
use Rattle.lines.specs.Tables.{Transition}

-- "for n lists, n+1 starts, .. never falling", each list within the entries, and no "list id at or above F" up to its end
pub record SoundLists (count : ℕ) (starts entries : List ℕ) (features : ℕ) : Type 0 where
  pub starting : count < length starts
  pub rising : (a : ℕ) → a < count → start starts a ≤ start starts (a + 1)
  pub within : (a : ℕ) → a < count → start starts (a + 1) ≤ length entries
  pub ids : (a e : ℕ) → a < count → e < start starts (a + 1) → get_or entries e 0 < features

-- the same for so many words and their attributes, whose ids may be anything
pub record SoundWords (words : ℕ) (starts ids : List ℕ) (values : List Float) : Type 0 where
  pub starting : words < length starts
  pub rising : (w : ℕ) → w < words → start starts w ≤ start starts (w + 1)
  pub within : (w : ℕ) → w < words → start starts (w + 1) ≤ length ids
  pub valued : (w : ℕ) → w < words → start starts (w + 1) ≤ length values

-- each feature has a kind, a destination and a weight, and no "destination at or above L"
pub record SoundStates (labels features : ℕ) (kinds destinations : List ℕ) (weights : List Float) : Type 0 where
  pub kinded : features ≤ length kinds
  pub aimed : features ≤ length destinations
  pub weighted : features ≤ length weights
  pub leads : (i : ℕ) → i < features → get_or destinations i 0 < labels

-- it has a source too, and no "Transition source at or above L"
pub record SoundTransitions (labels features : ℕ) (kinds destinations sources : List ℕ) (weights : List Float) : Type 0 where
  pub states : SoundStates labels features kinds destinations weights
  pub sourced : features ≤ length sources
  pub leaves : (i : ℕ) → i < features → get_or kinds i 0 ≡ Transition → get_or sources i 0 < labels

-- counting asks for the tables' room alone
pub record SoundCounts (features : ℕ) (kinds destinations : List ℕ) : Type 0 where
  pub kinded : features ≤ length kinds
  pub aimed : features ≤ length destinations
