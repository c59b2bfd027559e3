-- What is claimed of the answer line: its numbers read back, it says one thing only, and how long it can be. The proofs are in proofs/ReadBack, proofs/OneSaying and proofs/Longest.
use Rattle.std.specs.Prelude.{ℕ, ◌^◌, ◌≤◌, ◌<◌, ◌≡◌, List, T, length, take, drop, get_or, Float}
use Rattle.std.specs.Float.{binary64}
use Rattle.std.specs.Float.Ieee.{fits, to_bits, of_bits}
use Rattle.answer_line.specs.Digits.{decimal, read_digits}
use Rattle.answer_line.specs.Line.{path_line_of, refused_line_of, path_room}

pub record ReadBack : Type 0 where
  -- the 16 digits after `PATH` and a space are the sum's bits, and so the sum
  pub bits : (x : Float) (labels : List ℕ) → T (fits binary64 x) → read_digits 16 (take 16 (drop 5 (path_line_of x labels))) ≡ to_bits binary64 x
  pub sum : (x : Float) (labels : List ℕ) → T (fits binary64 x) → of_bits binary64 (read_digits 16 (take 16 (drop 5 (path_line_of x labels)))) ≡ x
  -- a label, a number or a place of 64 bits
  pub number : (n : ℕ) → n < 2 ^ 64 → read_digits 10 (decimal n) ≡ n
  -- no zero stands in front of another digit
  pub shortest : (n : ℕ) → n < 2 ^ 64 → 9 < n → get_or (decimal n) 0 0 ≡ 48 → ⊥

-- what a path's line can say: a binary64, and at least one label, each a number of 64 bits
pub record Sayable (sum : Float) (labels : List ℕ) : Type 0 where
  pub binary : T (fits binary64 sum)
  pub some : 0 < length labels
  pub small : (i : ℕ) → i < length labels → get_or labels i 0 < 2 ^ 64

-- no line says two things
pub record OneSaying : Type 0 where
  pub path : (x y : Float) (a b : List ℕ) → Sayable x a → Sayable y b → path_line_of x a ≡ path_line_of y b → (x ≡ y) × (a ≡ b)
  pub refused : (number place m p : ℕ) → number < 2 ^ 64 → place < 2 ^ 64 → m < 2 ^ 64 → p < 2 ^ 64 → refused_line_of number place ≡ refused_line_of m p → (number ≡ m) × (place ≡ p)
  pub either : (x : Float) (labels : List ℕ) (number place : ℕ) → path_line_of x labels ≡ refused_line_of number place → ⊥

pub record Longest : Type 0 where
  -- with 128 labels of two digits: 4 + 1 + 16 + 1 + (256 + 127) + 1
  pub path : (x : Float) (labels : List ℕ) → length labels ≤ 128 → ((i : ℕ) → i < length labels → get_or labels i 0 < 100) → length (path_line_of x labels) ≤ path_room
  -- with two numbers of 20 digits: 7 + 1 + 20 + 1 + 20 + 1
  pub refused : (number place : ℕ) → length (refused_line_of number place) ≤ 50
