-- What a shuffle may do to an order: its first n are a permutation of what they were, and the rest stays. The proof is in proofs/Permutes.
use Rattle.std.specs.Prelude.{◌≡◌, cond, List, [], ◌∷◌, ℕ, ◌+◌, eqb, length, take, drop}

-- how often a number stands in a list
unfoldable pub times : ℕ → List ℕ → ℕ
times x [] = 0
times x (y ∷ ys) = cond (eqb x y) 1 0 + times x ys

-- every number stands as often in the one as in the other
abbrev pub Permutation : List ℕ → List ℕ → Type 0
Permutation xs ys = (x : ℕ) → times x xs ≡ times x ys

pub record FrontPermuted (n : ℕ) (before after : List ℕ) : Type 0 where
  pub long : length after ≡ length before
  pub front : Permutation (take n after) (take n before)
  pub rest : drop n after ≡ drop n before
