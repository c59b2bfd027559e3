-- What the digits of the answer line read back as. Assumes nothing.
use mathlib.Core.Path.{◌≡◌, refl, sym, ◌∙◌, ap}
use mathlib.Core.Bool.{Bool, true, false}
use mathlib.Core.List.{List, [], ◌∷◌, ◌++◌}
use Prim.Native.Nat.{ℕ, zero, suc, ◌+◌, ◌*◌, ◌/◌, ◌%◌, ◌^◌, ◌<◌, ◌≤◌}
use native.Mathlib.Numerals.{add-one}
use native.Mathlib.Nat.{pow-zero, pow-suc, mod-lt, div-add-mod', div-lt_iff_lt-mul}
use native.Mathlib.Omega.{arith}
use borrow.Author.Tests.{lt-ltb, le-ltb}
use lib.Dec.{T, ltb, ltb→lt, nltb→le}
use lib.ListN.{get_or, take, drop, get_or-append}
use lib.Seq.{take_at}
use lib.Ieee.{Float, binary64, fits, to_bits, of_bits}
use lib.Ieee.Bits.{of_bits-to_bits, to_bits-lt}
use Rattle.answer_line.specs.Digits.{digit, digits, places_within, decimal_places, decimal, worth, read_on, read_digits}
use Rattle.answer_line.specs.Line.{sum_digits, path_line_of}
use Rattle.answer_line.specs.Claims.{ReadBack}
use Rattle.answer_line.proofs.Laws.{length_digits}

-- n is below ten or not
pub by_ten : {A : Type 0} (n : ℕ) → (n < 10 → A) → (9 < n → A) → A
by_ten {A} n p q = go (ltb n 10) (ltb→lt n 10) (nltb→le n 10)
  where
    go : (b : Bool) → (T b → n < 10) → (T (mathlib.Core.Bool.not b) → 10 ≤ n) → A
    go true h k = p (h tt)
    go false h k = q (k tt)

-- a digit stands for itself
worth_digit : (d : ℕ) → d < 16 → worth (digit d) ≡ d
unfolding worth digit
worth_digit d h =
    by_ten d
    (λ l. let p : 48 + d < 65 = omega arith in rw (lt-ltb d 10 l, lt-ltb (48 + d) 65 p) (omega arith))
    (λ l. let p : 65 ≤ 55 + d = omega arith in rw (le-ltb d 10 l, le-ltb (55 + d) 65 p) (omega arith))

read_last : (base v : ℕ) (text : List ℕ) (c : ℕ) → read_on base v (text ++ (c ∷ [])) ≡ read_on base v text * base + worth c
unfolding read_on
read_last base v [] c = refl
read_last base v (a ∷ text) c = read_last base (v * base + worth a) text c

-- k digits of a number that has no more read back as the number
pub read_digits_lem : (base : ℕ) → 0 < base → base ≤ 16 → (k n : ℕ) → n < base ^ k → read_digits base (digits base k n) ≡ n
unfolding digits read_on
read_digits_lem base p h zero n b = omega (arith, pow-zero base)
read_digits_lem base p h (suc k) n b =
    let d = mod-lt n p in
    let s : n / base < base ^ k = (div-lt_iff_lt-mul p).1 (rw (pow-suc base k) at b) in
    rw (read_last base 0 (digits base k (n / base)) (digit (n % base)), read_digits_lem base p h k (n / base) s, worth_digit (n % base) (omega arith)) (div-add-mod' n base)

-- ---- decimal

-- one place more for each division by ten
module _ (u n : ℕ) where
  pub few : n < 10 → places_within (suc u) n ≡ 1
  unfolding places_within
  few h = rw (lt-ltb n 10 h)

  pub many : 9 < n → places_within (suc u) n ≡ places_within u (n / 10) + 1
  unfolding places_within
  many h = rw (le-ltb n 10 h)

-- the places of a number hold it
pub places_hold : (u n : ℕ) → n < 10 ^ u → n < 10 ^ places_within u n
unfolding places_within
places_hold zero n h = h
places_hold (suc u) n h =
    by_ten n (λ l. rw (few u n l) (omega arith))
    (λ l.
    let p = pow-suc 10 u in
    let q = pow-suc 10 (places_within u (n / 10)) in
    let r = places_hold u (n / 10) (omega arith) in
    rw (many u n l, add-one) (omega arith))

places_some : (u n : ℕ) → 0 < n → n < 10 ^ u → 0 < places_within u n
places_some zero n p h = absurd (omega (arith, pow-zero 10))
places_some (suc u) n p h = by_ten n (λ l. rw (few u n l) (omega arith)) (λ l. rw (many u n l) (omega arith))

-- the first digit is no zero: it is that of n itself, or that of n / 10
single : (n : ℕ) → 0 < n → n < 10 → get_or (digits 10 1 n) 0 0 ≡ 48 → ⊥
unfolding digits digit
single n p l e =
    let q : n % 10 < 10 = omega arith in
    let e' : 48 + n % 10 ≡ 48 = rw (lt-ltb (n % 10) 10 q) at e in
    omega arith

longer : (m n : ℕ) → 0 < m → (get_or (digits 10 m (n / 10)) 0 0 ≡ 48 → ⊥) → get_or (digits 10 (suc m) n) 0 0 ≡ 48 → ⊥
unfolding digits
longer m n p h e = h (sym (get_or-append (digits 10 m (n / 10)) (digit (n % 10) ∷ []) 0 0 (rw (length_digits 10 m (n / 10)) p)) ∙ e)

leads : (u n : ℕ) → 0 < n → n < 10 ^ u → get_or (digits 10 (places_within u n) n) 0 0 ≡ 48 → ⊥
leads zero n p h = absurd (omega (arith, pow-zero 10))
leads (suc u) n p h =
    by_ten n (λ l. rw (few u n l) (single n p l))
    (λ l.
    let q = pow-suc 10 u in
    let b : n / 10 < 10 ^ u = omega arith in
    rw (many u n l, add-one) (longer (places_within u (n / 10)) n (places_some u (n / 10) (omega arith) b) (leads u (n / 10) (omega arith) b)))

decimal_back : (n : ℕ) → n < 2 ^ 64 → read_digits 10 (decimal n) ≡ n
unfolding decimal decimal_places
decimal_back n h = read_digits_lem 10 (omega arith) (omega arith) (places_within 20 n) n (places_hold 20 n (omega arith))

decimal_short : (n : ℕ) → n < 2 ^ 64 → 9 < n → get_or (decimal n) 0 0 ≡ 48 → ⊥
unfolding decimal decimal_places
decimal_short n h l = leads 20 n (omega arith) (omega arith)

-- ---- the sum

sum_place : (x : Float) (labels : List ℕ) → take 16 (drop 5 (path_line_of x labels)) ≡ sum_digits x
unfolding path_line_of
sum_place x labels = take_at (sum_digits x) _ 16 (length_digits 16 16 (to_bits binary64 x))

bits_back : (x : Float) (labels : List ℕ) → T (fits binary64 x) → read_digits 16 (take 16 (drop 5 (path_line_of x labels))) ≡ to_bits binary64 x
bits_back x labels f = rw (sum_place x labels) (read_digits_lem 16 (omega arith) (omega arith) 16 (to_bits binary64 x) (to_bits-lt binary64 x f))

pub read_back : ReadBack
read_back =
    record {
      bits = bits_back;
      sum = λ x labels f. ap (of_bits binary64) (bits_back x labels f) ∙ of_bits-to_bits binary64 x f;
      number = decimal_back;
      shortest = decimal_short;
    }
