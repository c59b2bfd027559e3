-- The test of one place in each table, and the check of the table. Assumes nothing.
use Rattle.std.specs.Prelude.{Bool, not, ◌&&◌, ◌||◌, List, ℕ, zero, suc, ◌+◌, get_or, eqb, ltb, leb, Float}
use Rattle.std.specs.Float.{nan}
use Rattle.std.specs.Float.Ieee.Scale.{finite}
use Rattle.refusals.specs.Refusals.{Checked, lowest}

-- n is not one of low to high
abbrev pub outside : ℕ → ℕ → ℕ → Bool
outside low high n = ltb n low || ltb high n

-- "a lent buffer too short"
abbrev pub short : ℕ → ℕ → Bool
short have need = ltb have need

-- the start before start i; 0 before the first
abbrev pub start_before : List ℕ → ℕ → ℕ
start_before starts zero = 0
start_before starts (suc i) = get_or starts i 0

-- "first 0, never falling, last equal to the entry count": start i breaks this
abbrev pub bad_start : List ℕ → ℕ → ℕ → ℕ → Bool
bad_start starts n entries i =
    eqb i 0 && not (eqb (get_or starts i 0) 0)
    || ltb (get_or starts i 0) (start_before starts i)
    || eqb i n && not (eqb (get_or starts i 0) entries)

-- "kind not 0 or 1"
abbrev pub bad_kind : List ℕ → ℕ → Bool
bad_kind kinds i = ltb 1 (get_or kinds i 0)

-- "at or above" a bound: a destination or label against L, a list id against F
abbrev pub not_below : List ℕ → ℕ → ℕ → Bool
not_below ids bound i = leb bound (get_or ids i 0)

-- "Transition source at or above L"; "a State feature's source is not read"
abbrev pub bad_source : List ℕ → List ℕ → ℕ → ℕ → Bool
bad_source kinds sources labels i = eqb (get_or kinds i 0) 1 && not_below sources labels i

-- "not finite"
abbrev pub not_finite : List Float → ℕ → Bool
not_finite numbers i = not (finite (get_or numbers i nan))

-- 3, "index of the first bad start": "for n lists, n+1 starts"
abbrev pub starts_checked : List ℕ → ℕ → ℕ → Checked
starts_checked starts n entries = lowest 3 (bad_start starts n entries) (n + 1)

-- 5, "index in its table", over the first n
abbrev pub kinds_checked : List ℕ → ℕ → Checked
kinds_checked kinds n = lowest 5 (bad_kind kinds) n

abbrev pub ids_checked : List ℕ → ℕ → ℕ → Checked
ids_checked ids n bound = lowest 5 (not_below ids bound) n

abbrev pub sources_checked : List ℕ → List ℕ → ℕ → ℕ → Checked
sources_checked kinds sources n labels = lowest 5 (bad_source kinds sources labels) n

-- 6, "index in its table", over the first n
abbrev pub numbers_checked : List Float → ℕ → Checked
numbers_checked numbers n = lowest 6 (not_finite numbers) n
