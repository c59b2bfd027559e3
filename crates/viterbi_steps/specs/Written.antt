-- A buffer of which a part is written. Assumes nothing.
use Rattle.std.specs.Prelude.{List, ℕ, zero, suc, ◌+◌, set}

-- so many values, written from a place on, one after the other; all else stays
unfoldable pub written : {A : Type 0} → ℕ → (ℕ → A) → ℕ → List A → List A
written at value zero buffer = buffer
written at value (suc k) buffer = set (written at value k buffer) (at + k) (value k)
