-- What the inner functions make: a table filled so far. Assumes nothing.
use Rattle.std.specs.Prelude.{List, ◌++◌, ℕ, take, drop, Float}

-- the first n numbers of a table in front of what a buffer held past them
unfoldable pub filled : List Float → ℕ → List Float → List Float
filled table n before = take n table ++ drop n before
