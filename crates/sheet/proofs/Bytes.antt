-- Laws of little-endian numbers and of tables in bytes, over plain lists and numbers. Assumes nothing.
use mathlib.Core.Path.{◌≡◌, refl, ◌∙◌, ap}
use mathlib.Core.Bool.{Bool, not}
use mathlib.Core.List.{List}
use Prim.Native.Nat.{ℕ, zero, suc, ◌+◌, ◌*◌, ◌<◌, ◌≤◌}
use native.Mathlib.Nat.{mul-le-mul}
use native.Mathlib.Numerals.{add-one}
use native.Mathlib.Omega.{arith}
use lib.ListN.{length, get_or, take, drop}
use lib.Seq.{drop-cons, drop-drop}
use lib.Ieee.{nan, binary64, of_bits}
use lib.Ieee.Scale.{finite}
use Rattle.refusals.specs.Tables.{not_finite}
use Rattle.sheet.specs.Fields.{value_of, numbers_in}

-- ---- little-endian numbers

-- the lowest byte, then the rest
module _ (bytes : List ℕ) where
  byte : (k at next : ℕ) → at + 1 ≡ next → at < length bytes → value_of (take (suc k) (drop at bytes)) ≡ get_or bytes at 0 + 256 * value_of (take k (drop next bytes))
  unfolding value_of
  byte k at next e h = rw (← e, drop-cons bytes at 0, add-one)

  -- two bytes
  abbrev pub half : ℕ → ℕ
  half at = get_or bytes at 0 + 256 * get_or bytes (at + 1) 0

  pub four_halves : (at : ℕ) → at + 8 ≤ length bytes → value_of (take 8 (drop at bytes)) ≡ half at + 65536 * (half (at + 2) + 65536 * (half (at + 4) + 65536 * half (at + 6)))
  unfolding value_of
  four_halves at h =
      rw (
        byte 7 at (at + 1) refl (omega arith),
        byte 6 (at + 1) (at + 2) (omega arith) (omega arith),
        byte 5 (at + 2) (at + 2 + 1) refl (omega arith),
        byte 4 (at + 2 + 1) (at + 4) (omega arith) (omega arith),
        byte 3 (at + 4) (at + 4 + 1) refl (omega arith),
        byte 2 (at + 4 + 1) (at + 6) (omega arith) (omega arith),
        byte 1 (at + 6) (at + 6 + 1) refl (omega arith),
        byte 0 (at + 6 + 1) (at + 8) (omega arith) (omega arith),
      )
      (omega arith)

-- ---- a table in bytes

pub length_numbers : (n : ℕ) (bytes : List ℕ) → length (numbers_in n bytes) ≡ n
unfolding numbers_in
length_numbers zero bytes = refl
length_numbers (suc n) bytes = ap suc (length_numbers n (drop 8 bytes))

number_in : (n : ℕ) (bytes : List ℕ) (i : ℕ) → i < n → get_or (numbers_in n bytes) i nan ≡ of_bits binary64 (value_of (take 8 (drop (8 * i) bytes)))
unfolding numbers_in
number_in zero bytes i h = absurd (omega arith)
number_in (suc n) bytes zero h = refl
number_in (suc n) bytes (suc i) h =
    let e : 8 * suc i ≡ 8 + 8 * i = omega arith in
    number_in n (drop 8 bytes) i (omega arith) ∙ rw (e, drop-drop (8 * i) 8 bytes)

-- number i of the table that starts at a place
pub number_at : (bytes : List ℕ) (at n i : ℕ) → i < n → get_or (numbers_in n (drop at bytes)) i nan ≡ of_bits binary64 (value_of (take 8 (drop (at + 8 * i) bytes)))
number_at bytes at n i h = number_in n (drop at bytes) i h ∙ rw (drop-drop (8 * i) at bytes)

-- the finite test of its pattern
pub tested : {w : ℕ} {r : Bool} (bytes : List ℕ) (at n i : ℕ) → i < n → w ≡ value_of (take 8 (drop (at + 8 * i) bytes)) → r ≡ finite (of_bits binary64 w) → not_finite (numbers_in n (drop at bytes)) i ≡ not r
tested bytes at n i h e f = rw (number_at bytes at n i h, ← e, f)

-- ---- sizes

-- the two tables, whatever the bytes say of L and T
pub small_sizes : {labels words : ℕ} → labels < 256 → words < 65536 → labels * labels + words * labels ≤ 16842240
small_sizes {labels} {words} l w =
    let p : labels ≤ 255 = omega arith in
    let q : words ≤ 65535 = omega arith in
    omega (arith, mul-le-mul p p, mul-le-mul q p)
