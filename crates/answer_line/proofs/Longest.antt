-- How long an answer line can be. Assumes nothing.
use mathlib.Core.List.{List, [], ◌∷◌, ◌++◌}
use Prim.Native.Nat.{ℕ, zero, suc, ◌-◌, ◌*◌, ◌/◌, ◌<◌, ◌≤◌}
use native.Mathlib.Omega.{arith}
use lib.ListN.{length, get_or, length-append}
use lib.Ieee.{Float, binary64, to_bits}
use Rattle.answer_line.specs.Digits.{places_within, decimal_places, decimal}
use Rattle.answer_line.specs.Line.{space, line_feed, sum_digits, further_labels, joined_labels, path_line_of, refused_line_of, path_room}
use Rattle.answer_line.specs.Claims.{Longest}
use Rattle.answer_line.proofs.Laws.{length_digits, length_decimal}
use Rattle.answer_line.proofs.ReadBack.{by_ten, few, many}

most : (u n : ℕ) → places_within u n ≤ u
unfolding places_within
most zero n = omega arith
most (suc u) n = by_ten n (λ l. rw (few u n l) (omega arith)) (λ l. rw (many u n l) (omega (arith, most u (n / 10))))

decimal_most : (n : ℕ) → length (decimal n) ≤ 20
unfolding decimal_places
decimal_most n = rw (length_decimal n) (most 20 n)

two_digits : (n : ℕ) → n < 100 → length (decimal n) ≤ 2
unfolding decimal_places
two_digits n h = rw (length_decimal n) (by_ten n (λ l. rw (few 19 n l) (omega arith)) (λ l. let b : n / 10 < 10 = omega arith in rw (many 19 n l, few 18 (n / 10) b) (omega arith)))

-- labels of at most two digits
module _ where
  abbrev Small : List ℕ → Type 0
  Small labels = (i : ℕ) → i < length labels → get_or labels i 0 < 100

  head : (label : ℕ) (labels : List ℕ) → Small (label ∷ labels) → label < 100
  head label labels h = h 0 (omega arith)

  tail : (label : ℕ) (labels : List ℕ) → Small (label ∷ labels) → Small labels
  tail label labels h i l = h (suc i) (omega arith)

  further : (labels : List ℕ) → Small labels → length (further_labels labels) ≤ 3 * length labels
  unfolding further_labels
  further [] h = omega arith
  further (label ∷ labels) h =
      omega (arith, length-append (decimal label) (further_labels labels), two_digits label (head label labels h), further labels (tail label labels h))

  joined : (labels : List ℕ) → Small labels → length (joined_labels labels) ≤ 3 * length labels - 1
  unfolding joined_labels
  joined [] h = omega arith
  joined (label ∷ labels) h =
      omega (arith, length-append (decimal label) (further_labels labels), two_digits label (head label labels h), further labels (tail label labels h))

path_most : (x : Float) (labels : List ℕ) → length labels ≤ 128 → Small labels → length (path_line_of x labels) ≤ path_room
unfolding path_line_of
path_most x labels n h =
    let j = joined_labels labels in
    let end = line_feed ∷ [] in
    omega (arith, length-append (sum_digits x) (space ∷ (j ++ end)), length_digits 16 16 (to_bits binary64 x), length-append j end, joined labels h)

refused_most : (number place : ℕ) → length (refused_line_of number place) ≤ 50
unfolding refused_line_of
refused_most number place =
    let end = line_feed ∷ [] in
    omega (arith, length-append (decimal number) (space ∷ (decimal place ++ end)), length-append (decimal place) end, decimal_most number, decimal_most place)

pub longest : Longest
longest = record { path = path_most; refused = refused_most }
