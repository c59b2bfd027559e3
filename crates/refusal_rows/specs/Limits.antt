-- Row 2 of document 01's table as lists of limits: counts within their bounds, and room in what is lent. A call has a list of each, counts first. Assumes nothing.
use Rattle.std.specs.Prelude.{Bool, true, false, ◌||◌, ◌&&◌, List, [], ◌∷◌, ℕ, ◌+◌, ◌≤◌, ltb, leb}
use Rattle.refusals.specs.Refusals.{Checked, refuse}
use Rattle.refusals.specs.Tables.{short}
use Rattle.refusals.specs.Bounds.{Count, position, bound, Inside, most, outside_its}

-- a count that is so large; one of which none is fine too, whatever its bound says; and a lent table or buffer with what is needed of it
pub data Limit : Type 0 where
  count : (which : Count) (n : ℕ) → Limit
  at_most : (which : Count) (n : ℕ) → Limit
  room : (have need : ℕ) → Limit

-- "outside its bound", "too short"
abbrev pub broken : Limit → Bool
broken (count which n) = outside_its which n
broken (at_most which n) = ltb (most which) n
broken (room have need) = short have need

-- the answer so far, or one of the limits is broken
abbrev pub broken_from : Bool → List Limit → Bool
broken_from answer [] = answer
broken_from answer (limit ∷ limits) = broken_from (answer || broken limit) limits

abbrev pub any_broken : List Limit → Bool
any_broken limits = broken_from false limits

-- limits that are counts alone, in document 01's order: a test that computes
abbrev pub rising_from : ℕ → List Limit → Bool
rising_from least [] = true
rising_from least (count which n ∷ limits) = leb least (position which) && rising_from (position which + 1) limits
rising_from least (at_most which n ∷ limits) = leb least (position which) && rising_from (position which + 1) limits
rising_from least (room have need ∷ limits) = false

abbrev pub in_order_of : List Limit → Bool
in_order_of limits = rising_from 0 limits

-- 2 | "a count other than L, T and epochs outside its bound, or a lent buffer too short" | 0
abbrev pub two : List Limit → Checked
two limits = refuse 2 0 (any_broken limits)

-- ---- the same in plain terms

abbrev pub Within : Limit → Type 0
Within (count which n) = Inside (bound which) n
Within (at_most which n) = n ≤ most which
Within (room have need) = need ≤ have

abbrev pub AllWithin : List Limit → Type 0
AllWithin [] = Unit
AllWithin (limit ∷ limits) = Within limit × AllWithin limits

-- every count is within its bound, and every table and buffer has room
abbrev pub Fitting : List Limit → List Limit → Type 0
Fitting counts rooms = AllWithin counts × AllWithin rooms
