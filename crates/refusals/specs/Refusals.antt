-- What a refusal is, and which of several is given. Assumes nothing.
use Rattle.std.specs.Prelude.{Bool, true, false, cond, List, [], ◌∷◌, ℕ, zero, suc, ltb, Ok, Err, Result}
use Rattle.refusals.specs.declared.Refusal.{Refusal}

-- what a check answers: nothing, where it accepts, or the refusal
abbrev pub Checked : Type 0
Checked = Result (Unit {0}) Refusal

-- the refusal with this number and place: nothing else makes one
abbrev pub numbered : ℕ → ℕ → Refusal
numbered number place = record { number = number; place = place }

-- a check that refuses so
abbrev pub refused_at : ℕ → ℕ → Checked
refused_at number place = Err (numbered number place)

-- "Given exactly when": refused where the test holds
unfoldable pub refuse : ℕ → ℕ → Bool → Checked
refuse number place true = refused_at number place
refuse number place false = Ok tt

-- the answer so far where that refuses, or else the next
unfoldable pub or_next_of : Checked → Checked → Checked
or_next_of (Ok _) next = next
or_next_of (Err why) next = Err why

-- "In each, .. the lowest index": the places 0 to n - 1 of one table in order, each refused where the test holds there
unfoldable pub lowest : ℕ → (ℕ → Bool) → ℕ → Checked
lowest number test zero = Ok tt
lowest number test (suc n) = or_next_of (lowest number test n) (refuse number n (test n))

-- the answer so far, then the checks in order
abbrev pub first_from : Checked → List Checked → Checked
first_from answer [] = answer
first_from answer (check ∷ checks) = first_from (or_next_of answer check) checks

-- the first of the checks that refuses; accepted where none does
abbrev pub first : List Checked → Checked
first checks = first_from (Ok tt) checks

-- which of two refusals goes first: the one of lower rank, and a refusal's rank is its number
abbrev pub rank : Refusal → ℕ
rank why = why.number

abbrev pub goes_before_of : Refusal → Refusal → Bool
goes_before_of this that = ltb (rank this) (rank that)

-- "The lowest number wins": of two answers the one with the lower number, of equal numbers the first
unfoldable pub sooner : Checked → Checked → Checked
sooner (Ok _) next = next
sooner (Err why) (Ok _) = Err why
sooner (Err why) (Err other) = cond (goes_before_of other why) (Err other) (Err why)
