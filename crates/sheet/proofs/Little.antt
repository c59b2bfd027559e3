-- Little-endian bytes and the numbers that they stand for are each other's inverse, and so are a table and its bytes. Assumes nothing.
use mathlib.Core.Path.{◌≡◌, refl, ap}
use mathlib.Core.Bool.{true}
use mathlib.Core.List.{List, [], ◌∷◌, ◌++◌, append_assoc}
use Prim.Native.Nat.{ℕ, zero, suc, ◌+◌, ◌*◌, ◌/◌, ◌%◌, ◌^◌, ◌<◌, ◌≤◌}
use native.Mathlib.Nat.{pow-suc, pow-zero}
use native.Mathlib.Omega.{arith}
use lib.Dec.{T}
use lib.ListN.{length, get_or, take, drop, length-append, length-drop}
use lib.Seq.{take_at, drop_at, take-add, get_or-take, get_or-drop, length-take-le}
use lib.Ieee.{Float, nan, binary64, fits, to_bits, of_bits}
use lib.Ieee.Bits.{to_bits-of_bits, of_bits-to_bits, to_bits-lt}
use lib.Ieee.Scale.{finite}
use Rattle.sheet.specs.File.{little_endian, number_bytes}
use Rattle.sheet.specs.Fields.{value_of, numbers_in}
use Rattle.sheet.specs.Files.{Bytes}
use Rattle.sheet.proofs.Pattern.{no_nan}

-- ---- one number

pub length_little : (k n : ℕ) → length (little_endian k n) ≡ k
unfolding little_endian
length_little zero n = refl
length_little (suc k) n = ap suc (length_little k (n / 256))

pub value_little : (k n : ℕ) → n < 256 ^ k → value_of (little_endian k n) ≡ n
unfolding little_endian value_of
value_little zero n h = omega (arith, pow-zero 256)
value_little (suc k) n h = let p = pow-suc 256 k in rw (value_little k (n / 256) (omega arith)) (omega arith)

head : {b : ℕ} {bs : List ℕ} → Bytes (b ∷ bs) → b < 256
head h = h.below 0 (omega arith)

tail : {b : ℕ} {bs : List ℕ} → Bytes (b ∷ bs) → Bytes bs
tail h = record { below = λ i l. h.below (suc i) (omega arith) }

pub value_below : (bs : List ℕ) → Bytes bs → value_of bs < 256 ^ length bs
unfolding value_of
value_below [] h = omega (arith, pow-zero 256)
value_below (b ∷ bs) h = omega (arith, head h, value_below bs (tail h), pow-suc 256 (length bs))

pub little_value : (bs : List ℕ) → Bytes bs → little_endian (length bs) (value_of bs) ≡ bs
unfolding little_endian value_of
little_value [] h = refl
little_value (b ∷ bs) h =
    let l = head h in
    let r : (b + 256 * value_of bs) % 256 ≡ b = omega arith in
    let q : (b + 256 * value_of bs) / 256 ≡ value_of bs = omega arith in
    rw (r, q, little_value bs (tail h))

-- ---- a table

pub take_bytes : (n : ℕ) (bs : List ℕ) → n ≤ length bs → Bytes bs → Bytes (take n bs)
take_bytes n bs l h = let e = length-take-le n bs l in record { below = λ i b. rw (get_or-take n bs i 0 (omega arith)) (h.below i (omega arith)) }

pub drop_bytes : (n : ℕ) (bs : List ℕ) → n ≤ length bs → Bytes bs → Bytes (drop n bs)
drop_bytes n bs l h = let e = length-drop n bs in record { below = λ i b. rw (get_or-drop n bs i 0) (h.below (n + i) (omega arith)) }

-- the first eight bytes, written again
pattern_back : (bs : List ℕ) → 8 ≤ length bs → Bytes bs → finite (of_bits binary64 (value_of (take 8 bs))) ≡ true → little_endian 8 (to_bits binary64 (of_bits binary64 (value_of (take 8 bs)))) ≡ take 8 bs
pattern_back bs l h f =
    let e : length (take 8 bs) ≡ 8 = length-take-le 8 bs l in
    let b = take_bytes 8 bs l h in
    let v : value_of (take 8 bs) < 256 ^ 8 = rw e at (value_below (take 8 bs) b) in
    rw (to_bits-of_bits binary64 (value_of (take 8 bs)) v (no_nan _ f)) (rw e at (little_value (take 8 bs) b))

-- the first n numbers, written again
pub numbers_back : (n : ℕ) (bs : List ℕ) → 8 * n ≤ length bs → Bytes bs → ((i : ℕ) → i < n → finite (get_or (numbers_in n bs) i nan) ≡ true) → number_bytes (numbers_in n bs) ≡ take (8 * n) bs
unfolding numbers_in number_bytes
numbers_back zero bs l h f = refl
numbers_back (suc n) bs l h f =
    let e : 8 * suc n ≡ 8 + 8 * n = omega arith in
    rw (e, take-add 8 (8 * n) bs, pattern_back bs (omega arith) h (f 0 (omega arith)))
    (ap (λ (rest : List ℕ). take 8 bs ++ rest) (numbers_back n (drop 8 bs) (rw (length-drop 8 bs) (omega arith)) (drop_bytes 8 bs (omega arith) h) (λ i b. f (suc i) (omega arith))))

pub length_bytes : (table : List Float) → length (number_bytes table) ≡ 8 * length table
unfolding number_bytes
length_bytes [] = refl
length_bytes (x ∷ table) =
    rw (length-append (little_endian 8 (to_bits binary64 x)) (number_bytes table), length_little 8 (to_bits binary64 x), length_bytes table) (omega arith)

-- a table's bytes, read again
pub numbers_read : (table : List Float) (rest : List ℕ) → ((i : ℕ) → i < length table → T (fits binary64 (get_or table i nan))) → numbers_in (length table) (number_bytes table ++ rest) ≡ table
unfolding numbers_in number_bytes
numbers_read [] rest f = refl
numbers_read (x ∷ table) rest f =
    let b = little_endian 8 (to_bits binary64 x) in
    let l = length_little 8 (to_bits binary64 x) in
    let t = f 0 (omega arith) in
    rw (append_assoc b (number_bytes table) rest, take_at b (number_bytes table ++ rest) 8 l, drop_at b (number_bytes table ++ rest) 8 l, value_little 8 (to_bits binary64 x) (to_bits-lt binary64 x t), of_bits-to_bits binary64 x t, numbers_read table rest (λ i h. f (suc i) (omega arith)))
