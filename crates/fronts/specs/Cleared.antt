-- The needed front of a lent table, filled with one value. Assumes nothing.
use Rattle.std.specs.Prelude.{List, ◌++◌, ℕ, drop, replicate}

-- "the needed front .. is zero", and "only the needed front is touched"
abbrev pub cleared : {A : Type 0} → A → ℕ → List A → List A
cleared zero needed before = replicate needed zero ++ drop needed before
