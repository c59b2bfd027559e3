-- "Finite" of the first numbers of a table: as a statement, and as the test that code makes. The proofs are in proofs/Finite.
use Rattle.std.specs.Prelude.{◌≡◌, Bool, true, false, ◌&&◌, List, ◌++◌, ◌↔◌, ℕ, zero, suc, ◌<◌, ◌≤◌, T, length, get_or, Float}
use Rattle.std.specs.Float.{nan}
use Rattle.std.specs.Float.Ieee.Scale.{finite}

-- the first n numbers of a table are finite
abbrev pub FiniteTo : List Float → ℕ → Type 0
FiniteTo numbers n = (i : ℕ) → i < n → T (finite (get_or numbers i nan))

-- "not finite"
abbrev pub NotFinite : List Float → ℕ → Type 0
NotFinite numbers i = finite (get_or numbers i nan) ≡ false

-- the same of the first n, as a test
unfoldable pub all_finite_of : List Float → ℕ → Bool
all_finite_of table zero = true
all_finite_of table (suc n) = all_finite_of table n && finite (get_or table n nan)

-- the test tells exactly that
abbrev pub TestMeans : Type 0
TestMeans = (table : List Float) (n : ℕ) → (all_finite_of table n ≡ true) ↔ FiniteTo table n

-- and looks at no more than the front
abbrev pub TestsFront : Type 0
TestsFront = (front rest : List Float) (n : ℕ) → n ≤ length front → all_finite_of (front ++ rest) n ≡ all_finite_of front n
