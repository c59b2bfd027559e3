-- What a result buffer holds after a call on a single line, accepted or refused. Assumes nothing.
use Rattle.std.specs.Prelude.{List, ◌++◌, ℕ, drop, Float, Ok, Err}
use Rattle.refusals.specs.Refusals.{Checked}
use Rattle.fronts.specs.Cleared.{cleared}
use Rattle.binary64.specs.Numbers.{nought}

-- numbers whose front is cleared where a check refuses
abbrev pub cleared_where : Checked → ℕ → List Float → List Float
cleared_where (Ok _) needed numbers = numbers
cleared_where (Err why) needed numbers = cleared nought needed numbers

-- "After 1 to 7 .. every lent buffer holds its entry contents. After 8 .. the needed front of every result .. buffer is zero": `checked` is the first of 1 to 6 that applies, `finished` is 8, and `made` is what an accepted call makes for the needed front
abbrev pub contents : {A : Type 0} → Checked → Checked → A → ℕ → List A → List A → List A
contents (Err why) finished zero needed before made = before
contents (Ok _) (Err why) zero needed before made = cleared zero needed before
contents (Ok _) (Ok _) zero needed before made = made ++ drop needed before
