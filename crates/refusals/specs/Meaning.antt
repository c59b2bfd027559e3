-- What the checks of one table mean, and what several in order mean, in plain terms. Each claim is proved in proofs/Meant. Assumes nothing.
use Rattle.std.specs.Prelude.{◌≡◌, false, List, [], ◌∷◌, ◌⊎◌, ◌↔◌, ℕ, ◌+◌, ◌-◌, ◌<◌, ◌≤◌, get_or, Float, Ok, Err}
use Rattle.std.specs.Float.{nan}
use Rattle.std.specs.Float.Ieee.Scale.{finite}
use Rattle.refusals.specs.declared.Refusal.{Refusal}
use Rattle.refusals.specs.Refusals.{Checked, refused_at, first}
use Rattle.refusals.specs.Tables.{starts_checked, kinds_checked, ids_checked, sources_checked, numbers_checked}

-- "the lowest index": p is bad, and no place before it
pub record FirstBad (Bad : ℕ → Type 0) (n p : ℕ) : Type 0 where
  pub inside : p < n
  pub bad : Bad p
  pub lowest : (j : ℕ) → j < p → Bad j → ⊥

-- "Given exactly when": a check of n places accepts exactly when none is bad, refuses exactly at the first bad one, and under no other number
pub record Exactly (check : Checked) (number n : ℕ) (Bad : ℕ → Type 0) : Type 0 where
  pub accepted : (check ≡ Ok tt) ↔ ((i : ℕ) → i < n → Bad i → ⊥)
  pub refused : (p : ℕ) → (check ≡ refused_at number p) ↔ FirstBad Bad n p
  pub only : (why : Refusal) → check ≡ Err why → Err why ≡ refused_at number why.place

-- a start that breaks the rule: the first that is not 0, one below the start before it, the last that is not the entry count
pub data BadStart (starts : List ℕ) (n entries i : ℕ) : Type 0 where
  not_zero : i ≡ 0 → (get_or starts i 0 ≡ 0 → ⊥) → BadStart starts n entries i
  falls : 0 < i → get_or starts i 0 < get_or starts (i - 1) 0 → BadStart starts n entries i
  not_the_count : i ≡ n → (get_or starts i 0 ≡ entries → ⊥) → BadStart starts n entries i

-- 3 | "a rule of starts is broken" | "index of the first bad start"
abbrev pub StartsMean : Type 0
StartsMean = (starts : List ℕ) (n entries : ℕ) → Exactly (starts_checked starts n entries) 3 (n + 1) (BadStart starts n entries)

-- 5 | "kind not 0 or 1" | "index in its table"
abbrev pub KindsMean : Type 0
KindsMean = (kinds : List ℕ) (n : ℕ) → Exactly (kinds_checked kinds n) 5 n (λ i. (get_or kinds i 0 ≡ 0 → ⊥) × (get_or kinds i 0 ≡ 1 → ⊥))

-- 5 | "destination at or above L", "list id at or above F", "label at or above L" | "index in its table"
abbrev pub IdsMean : Type 0
IdsMean = (ids : List ℕ) (n bound : ℕ) → Exactly (ids_checked ids n bound) 5 n (λ i. bound ≤ get_or ids i 0)

-- 5 | "Transition source at or above L" | "index in its table"
abbrev pub SourcesMean : Type 0
SourcesMean = (kinds sources : List ℕ) (n labels : ℕ) → Exactly (sources_checked kinds sources n labels) 5 n (λ i. (get_or kinds i 0 ≡ 1) × (labels ≤ get_or sources i 0))

-- 6 | "a weight, value, instance weight or table entry not finite" | "index in its table"
abbrev pub NumbersMean : Type 0
NumbersMean = (numbers : List Float) (n : ℕ) → Exactly (numbers_checked numbers n) 6 n (λ i. finite (get_or numbers i nan) ≡ false)

-- "first 0, never falling, last equal to the entry count"
pub record Starts (starts : List ℕ) (n entries : ℕ) : Type 0 where
  pub begins : get_or starts 0 0 ≡ 0
  pub rises : (i : ℕ) → i < n → get_or starts i 0 ≤ get_or starts (i + 1) 0
  pub ends : get_or starts n 0 ≡ entries

abbrev pub StartsKept : Type 0
StartsKept = (starts : List ℕ) (n entries : ℕ) → (starts_checked starts n entries ≡ Ok tt) ↔ Starts starts n entries

-- every one of the checks accepts
abbrev pub AllAccepted : List Checked → Type 0
AllAccepted [] = Unit
AllAccepted (check ∷ checks) = (check ≡ Ok tt) × AllAccepted checks

-- one of the checks refuses so, and all before it accept
abbrev pub FirstRefused : Refusal → List Checked → Type 0
FirstRefused why [] = ⊥
FirstRefused why (check ∷ checks) = (check ≡ Err why) ⊎ ((check ≡ Ok tt) × FirstRefused why checks)

-- checks in order: accepted exactly when all accept, refused exactly as the first that refuses
abbrev pub FirstMeans : Type 0
FirstMeans = (checks : List Checked) → ((first checks ≡ Ok tt) ↔ AllAccepted checks) × ((why : Refusal) → (first checks ≡ Err why) ↔ FirstRefused why checks)
