-- A front laid over a lent table. Assumes nothing.
use Rattle.std.specs.Prelude.{List, ◌++◌, length, drop}

-- "After an accepted call the needed fronts hold the answer and everything behind them what it held"
unfoldable pub laid : {A : Type 0} → List A → List A → List A
laid front before = front ++ drop (length front) before
