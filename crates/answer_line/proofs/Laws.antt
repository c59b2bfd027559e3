-- Laws of digits and of labels, over plain lists and numbers. Assumes nothing.
use mathlib.Core.Path.{◌≡◌, refl, sym, ◌∙◌}
use mathlib.Core.List.{List, [], ◌∷◌, ◌++◌}
use Prim.Native.Nat.{ℕ, zero, suc, ◌+◌, ◌-◌, ◌/◌, ◌%◌, ◌^◌, ◌<◌, ◌≤◌}
use native.Mathlib.Numerals.{add-one}
use native.Mathlib.Nat.{pow-suc, mod-lt}
use native.Mathlib.Omega.{arith}
use borrow.Author.Tests.{lt-ltb, le-ltb}
use lib.ListN.{length, get_or, set, take, drop, length-append, drop_of_length-le}
use lib.Seq.{drop-cons}
use Rattle.std.proofs.lemmas.List.{take_rest}
use Rattle.answer_line.specs.Digits.{digit, digits, places_within, decimal_places, decimal}
use Rattle.byte_buffers.specs.Stored.{stored}
use Rattle.byte_buffers.proofs.Laws.{stored_append, stored_one, stored_past}
use Rattle.answer_line.specs.Line.{comma, further_labels, joined_labels}

-- ---- digits

pub digit_below : (n base : ℕ) → 0 < base → base ≤ 16 → n % base < 16
digit_below n base p h = omega (arith, mod-lt n p)

pub length_digits : (base k n : ℕ) → length (digits base k n) ≡ k
unfolding digits
length_digits base zero n = refl
length_digits base (suc k) n = rw (length-append, length_digits base k (n / base)) (omega arith)

pub length_decimal : (n : ℕ) → length (decimal n) ≡ decimal_places n
unfolding decimal
length_decimal n = length_digits 10 (decimal_places n) n

-- the last of k digits is stored first, where the others still have to come before it
digit_back : (base j n : ℕ) (l : List ℕ) (at : ℕ) → stored (set l (at + j) (digit (n % base))) at (digits base j (n / base)) ≡ stored l at (digits base (suc j) n)
unfolding digits
digit_back base j n l at =
    let s = digits base j (n / base) in
    let d = digit (n % base) in
    let e = length_digits base j (n / base) in
    sym (stored_past l at s (at + j) d (omega arith)) ∙ sym (rw (stored_append l at s (d ∷ []), e) (sym (stored_one _ _ _)))

pub digits_more : (base k n : ℕ) (l : List ℕ) (at : ℕ) → 0 < k → stored (set l (at + (k - 1)) (digit (n % base))) at (digits base (k - 1) (n / base)) ≡ stored l at (digits base k n)
digits_more base k n l at h = let e : suc (k - 1) ≡ k = omega arith in digit_back base (k - 1) n l at ∙ rw e

pub digits_end : (base k n : ℕ) (l : List ℕ) (at : ℕ) → k ≤ 0 → l ≡ stored l at (digits base k n)
unfolding digits stored
digits_end base k n l at h = let e : k ≡ 0 = omega arith in rw e

-- one division by ten more, where u places are left to count
pub record Divided (u rest : ℕ) : Type 0 where
  pub left : 1 < u
  pub below : rest / 10 < 10 ^ (u - 1)
  pub counted : places_within u rest ≡ places_within (u - 1) (rest / 10) + 1

pub divided : (u rest : ℕ) → 9 < rest → rest < 10 ^ u → Divided u rest
unfolding places_within
divided zero rest h b = absurd (omega arith)
divided (suc zero) rest h b = absurd (omega arith)
divided (suc (suc v)) rest h b =
    let e : suc (suc v) - 1 ≡ suc v = omega arith in
    let p = pow-suc 10 (suc v) in
    record { left = omega arith; below = rw e (omega arith); counted = rw (e, le-ltb rest 10 h) }

pub one_place : (u rest : ℕ) → 0 < u → rest ≤ 9 → places_within u rest ≡ 1
unfolding places_within
one_place zero rest p h = absurd (omega arith)
one_place (suc v) rest p h = let b : rest < 10 = omega arith in rw (lt-ltb rest 10 b)

-- ---- labels

pub first_label : (labels : List ℕ) → 0 < length labels → joined_labels labels ≡ decimal (get_or labels 0 0) ++ further_labels (take (length labels - 1) (drop 1 labels))
unfolding joined_labels
first_label [] h = absurd (omega arith)
first_label (label ∷ labels) h = rw (take_rest (label ∷ labels) 1)

pub next_label : (labels : List ℕ) (i : ℕ) → i < length labels → further_labels (drop i labels) ≡ comma ∷ (decimal (get_or labels i 0) ++ further_labels (drop (i + 1) labels))
unfolding further_labels
next_label labels i h = rw (drop-cons labels i 0, add-one)

pub no_label : (labels : List ℕ) (i : ℕ) → length labels ≤ i → further_labels (drop i labels) ≡ []
unfolding further_labels
no_label labels i h = rw (drop_of_length-le labels h)
