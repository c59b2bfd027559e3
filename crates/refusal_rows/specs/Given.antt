-- When a call gives a number, in plain terms that every call shares. Assumes nothing.
use Rattle.std.specs.Prelude.{◌≡◌, List, [], ◌∷◌, ◌⊎◌, ℕ}

-- a row whose place is 0: something is not fine
abbrev pub AtZero : Type 0 → ℕ → Type 0
AtZero Fine place = (place ≡ 0) × (Fine → ⊥)

-- one of these numbers
abbrev pub OneOf : List ℕ → ℕ → Type 0
OneOf [] number = ⊥
OneOf (this ∷ others) number = (number ≡ this) ⊎ OneOf others number
