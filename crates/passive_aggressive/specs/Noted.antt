-- The norm adds nothing for a feature whose two counts are the same: the fours of features with another in them are noted, and the noted ones added up later. Assumes nothing.
use Rattle.std.specs.Prelude.{Bool, ◌||◌, List, ℕ, ◌+◌, ◌≤◌, ◌<◌, get_or, length, Float}
use Rattle.std.specs.Float.Ieee.{ne}
use Rattle.lines.specs.Passes.{through}
use Rattle.binary64.specs.Numbers.{nought}
use Rattle.training.specs.Rules.{difference, squared}

module _ (truly predicted : List Float) where
  -- the counts of a feature differ, or those of one before it
  unfoldable pub differing : ℕ → Bool → Bool
  differing i any = any || ne (difference truly predicted i) nought

  -- the four features of a note, added up
  unfoldable pub four_added : List ℕ → ℕ → Float → Float
  four_added who note sum = through (squared truly predicted) (get_or who note 0) 4 sum

  -- so many notes, in their order
  unfoldable pub fours_added : List ℕ → ℕ → Float → Float
  fours_added who noted sum = through (four_added who) 0 noted sum

-- so many notes are there, each of four features
pub record FourNotes (features : ℕ) (who : List ℕ) (noted : ℕ) : Type 0 where
  pub there : noted ≤ length who
  pub fours : (note : ℕ) → note < noted → get_or who note 0 + 4 ≤ features
