-- A pass over a range, and adding at a place of a table: what scoring, counting and training are made of. Assumes nothing.
use Rattle.std.specs.Prelude.{List, ℕ, zero, suc, ◌+◌, ◌-◌, get_or, set, Float}
use Rattle.std.specs.Float.{nan, binary64}
use Rattle.std.specs.Float.Ieee.{add}

-- s after the steps at first, first + 1, ..: n of them
unfoldable pub through : {S : Type 0} → (ℕ → S → S) → ℕ → ℕ → S → S
through step first zero s = s
through step first (suc n) s = step (first + n) (through step first n s)

-- "Lists lie flat": where list a begins, how many it holds, and s after a step at each of its places
abbrev pub start : List ℕ → ℕ → ℕ
start starts a = get_or starts a 0

abbrev pub size : List ℕ → ℕ → ℕ
size starts a = get_or starts (a + 1) 0 - get_or starts a 0

abbrev pub through_list : {S : Type 0} → (ℕ → S → S) → List ℕ → ℕ → S → S
through_list step starts a s = through step (start starts a) (size starts a) s

-- v is added at a place of a table
unfoldable pub raised : List Float → ℕ → Float → List Float
raised table place v = set table place (add binary64 (get_or table place nan) v)
