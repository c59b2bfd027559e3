-- The tests byte by byte. Assumes nothing.
use mathlib.Core.Path.{◌≡◌, refl, sym, ap, ◌∙◌}
use mathlib.Core.Bool.{Bool, true, false, cond, not, ◌&&◌, ◌||◌}
use mathlib.Core.List.{[], ◌∷◌}
use Prim.Native.Nat.{ℕ, suc, ◌+◌, ◌-◌, ◌≤◌, ◌<◌}
use native.Mathlib.Omega.{arith}
use borrow.Author.Tests.{eq-eqb, ne_eqb, eqb-true, eqb-false}
use lib.Dec.{eqb, ltb, leb}
use lib.ListN.{length, get_or, take, drop, drop_of_length-le}
use lib.Seq.{slice, length-slice, slice-cons, slice_empty, drop-cons}
use native.Mathlib.Nat.{le_antisymm}
use native.Mathlib.Numerals.{add-one}
use Rattle.refusals.specs.Tables.{outside}
use Rattle.layout.specs.Layout.{Bytes}
use Rattle.text_tables.specs.Tables.{Strings}
use Rattle.text_tables.specs.Written.{string_at}
use Rattle.text_writing.specs.Ready.{StringStands}
use Rattle.std.proofs.lemmas.List.{drop-take}
use Rattle.std.proofs.lemmas.Bool.Decides.{nat_tests}
use Rattle.text_writing.proofs.Laws.{part_is, part_stands}
use Rattle.write_check.specs.Carry.{unclean, nothing, no_name, no_scale_from, behind_minus, no_scale, not_kept, Digitwise}

-- ---- bytes from one place up to another
part_next : (bytes : Bytes) (i to : ℕ) → i < to → to ≤ length bytes → slice i to bytes ≡ get_or bytes i 0 ∷ slice (i + 1) to bytes
part_next bytes i to h k = slice-cons i to bytes 0 h k ∙ ap (λ (j : ℕ). get_or bytes i 0 ∷ slice j to bytes) (sym (add-one i))

part_over : (bytes : Bytes) (i to : ℕ) → i ≤ to → to ≤ i → slice i to bytes ≡ []
part_over bytes i to h k = ap (λ (j : ℕ). slice j to bytes) (le_antisymm h k) ∙ slice_empty to bytes

next : (part : Bytes) (i : ℕ) → i < length part → drop i part ≡ get_or part i 0 ∷ drop (i + 1) part
next part i h = drop-cons part i 0 h ∙ ap (λ (k : ℕ). get_or part i 0 ∷ drop k part) (sym (add-one i))

-- as a slice of a slice is lent
pub part_lent : (bytes : Bytes) (from to : ℕ) → from ≤ to → slice from to bytes ≡ take (to - from) (drop from bytes)
part_lent bytes from to h = ap (λ (k : ℕ). drop from (take k bytes)) e ∙ drop-take from (to - from) bytes
  where
    e : to ≡ from + (to - from)
    e = omega (arith, h)

-- ---- tabs and line feeds
unclean_next : (b : ℕ) (t : Bytes) → unclean (b ∷ t) ≡ (eqb b 9 || eqb b 10 || unclean t)
unclean_next b t = unfold unclean in refl

unclean_none : unclean [] ≡ false
unclean_none = unfold unclean in refl

-- what is left of a name is as unclean as all of it
unclean_drop : (name : Bytes) (i : ℕ) → i < length name → unclean (drop i name) ≡ (eqb (get_or name i 0) 9 || eqb (get_or name i 0) 10 || unclean (drop (i + 1) name))
unclean_drop name i h = ap unclean (next name i h) ∙ unclean_next (get_or name i 0) (drop (i + 1) name)

pub unclean_here : (name : Bytes) (i : ℕ) → i < length name → unclean (drop i name) ≡ unclean name → eqb (get_or name i 0) 9 || eqb (get_or name i 0) 10 ≡ true → true ≡ unclean name
unclean_here name i h e s = ap (λ (x : Bool). x || unclean (drop (i + 1) name)) (sym s) ∙ sym (unclean_drop name i h) ∙ e

pub unclean_on : (name : Bytes) (i : ℕ) → i < length name → unclean (drop i name) ≡ unclean name → eqb (get_or name i 0) 9 || eqb (get_or name i 0) 10 ≡ false → unclean (drop (i + 1) name) ≡ unclean name
unclean_on name i h e s = ap (λ (x : Bool). x || unclean (drop (i + 1) name)) (sym s) ∙ sym (unclean_drop name i h) ∙ e

pub unclean_over : (name : Bytes) (i : ℕ) → length name ≤ i → unclean (drop i name) ≡ unclean name → false ≡ unclean name
unclean_over name i h e = sym unclean_none ∙ ap unclean (sym (drop_of_length-le name {i = i} h)) ∙ e

-- ---- a scale
scale_step : (p d b : ℕ) (t : Bytes) → no_scale_from p d (b ∷ t) ≡ cond (eqb b 46) (no_scale_from (p + 1) d t) (cond (leb 48 b && leb b 57) (no_scale_from p (d + 1) t) true)
scale_step p d b t = unfold no_scale_from in refl

pub scale_point : (p d b : ℕ) (t : Bytes) → eqb b 46 ≡ true → no_scale_from p d (b ∷ t) ≡ no_scale_from (p + 1) d t
scale_point p d b t h = scale_step p d b t ∙ rw h

pub scale_digit : (p d b : ℕ) (t : Bytes) → eqb b 46 ≡ false → leb 48 b && leb b 57 ≡ true → no_scale_from p d (b ∷ t) ≡ no_scale_from p (d + 1) t
scale_digit p d b t h k = scale_step p d b t ∙ rw (h, k)

pub scale_other : (p d b : ℕ) (t : Bytes) → eqb b 46 ≡ false → leb 48 b && leb b 57 ≡ false → no_scale_from p d (b ∷ t) ≡ true
scale_other p d b t h k = scale_step p d b t ∙ rw (h, k)

pub scale_end : (p d : ℕ) → no_scale_from p d [] ≡ (outside 1 15 d || ltb 1 p)
scale_end p d = unfold no_scale_from in refl

pub minus_here : (b : ℕ) (t : Bytes) → eqb b 45 ≡ true → behind_minus (b ∷ t) ≡ t
minus_here b t h = unfold behind_minus in rw h

pub minus_not : (b : ℕ) (t : Bytes) → eqb b 45 ≡ false → behind_minus (b ∷ t) ≡ b ∷ t
minus_not b t h = unfold behind_minus in rw h

pub minus_none : behind_minus [] ≡ []
minus_none = unfold behind_minus in refl

-- so many points and digits up to place i, and what is left decides
pub record Sorting (kept : Bytes) (i points digits : ℕ) : Type 0 where
  pub few_points : points ≤ i
  pub few_digits : digits ≤ i
  pub same : no_scale_from points digits (drop i kept) ≡ no_scale_from 0 0 kept

module _ {kept : Bytes} {i points digits : ℕ} (g : Sorting kept i points digits) where
  first_of : i < length kept → no_scale_from points digits (get_or kept i 0 ∷ drop (i + 1) kept) ≡ no_scale_from 0 0 kept
  first_of h = ap (no_scale_from points digits) (sym (next kept i h)) ∙ g.same

  pub sorting_point : i < length kept → get_or kept i 0 ≡ 46 → Sorting kept (i + 1) (points + 1) digits
  sorting_point h s = record {
    few_points = omega (arith, g.few_points);
    few_digits = omega (arith, g.few_digits);
    same = sym (scale_point points digits (get_or kept i 0) (drop (i + 1) kept) (eq-eqb _ 46 s)) ∙ first_of h;
  }

  pub sorting_digit : i < length kept → 48 ≤ get_or kept i 0 → get_or kept i 0 ≤ 57 → Sorting kept (i + 1) points (digits + 1)
  sorting_digit h s k = record {
    few_points = omega (arith, g.few_points);
    few_digits = omega (arith, g.few_digits);
    same = sym (scale_digit points digits (get_or kept i 0) (drop (i + 1) kept) (ne_eqb _ 46 (λ e. omega (arith, e, s))) (grind (arith, nat_tests))) ∙ first_of h;
  }

  pub sorting_other : i < length kept → (get_or kept i 0 ≡ 46 → ⊥) → (48 ≤ get_or kept i 0 → get_or kept i 0 ≤ 57 → ⊥) → true ≡ no_scale_from 0 0 kept
  sorting_other h s k =
      sym (scale_other points digits (get_or kept i 0) (drop (i + 1) kept) (ne_eqb _ 46 s) (no_digit (get_or kept i 0) k)) ∙ first_of h
    where
      no_digit : (b : ℕ) → (48 ≤ b → b ≤ 57 → ⊥) → leb 48 b && leb b 57 ≡ false
      no_digit b n = grind (arith, nat_tests)

  pub sorting_over : length kept ≤ i → (outside 1 15 digits || ltb 1 points) ≡ no_scale_from 0 0 kept
  sorting_over h = sym (scale_end points digits) ∙ ap (no_scale_from points digits) (sym (drop_of_length-le kept {i = i} h)) ∙ g.same

pub kept_is : {bytes : Bytes} {from to first : ℕ} → Digitwise bytes from to first → no_scale_from 0 0 (take (to - first) (drop first bytes)) ≡ no_scale (slice from to bytes)
kept_is {bytes} {from} {to} {first} d = ap (no_scale_from 0 0) (sym (part_lent bytes first to d.inside) ∙ d.same)

-- where the digits begin
pub begins_here : (bytes : Bytes) (from to : ℕ) → from < to → to ≤ length bytes → eqb (get_or bytes from 0) 45 ≡ true → slice (from + 1) to bytes ≡ behind_minus (slice from to bytes)
begins_here bytes from to h k s =
    sym (minus_here (get_or bytes from 0) (slice (from + 1) to bytes) s) ∙ ap behind_minus (sym (part_next bytes from to h k))

pub begins_first : (bytes : Bytes) (from to : ℕ) → from < to → to ≤ length bytes → eqb (get_or bytes from 0) 45 ≡ false → slice from to bytes ≡ behind_minus (slice from to bytes)
begins_first bytes from to h k s =
    let e = part_next bytes from to h k in
    e ∙ sym (minus_not (get_or bytes from 0) (slice (from + 1) to bytes) s) ∙ ap behind_minus (sym e)

pub begins_none : (bytes : Bytes) (from to : ℕ) → from ≤ to → to ≤ from → slice from to bytes ≡ behind_minus (slice from to bytes)
begins_none bytes from to h k = let e = part_over bytes from to h k in e ∙ sym minus_none ∙ ap behind_minus (sym e)

-- ---- of a string of a list
nothing_length : (t : Bytes) → eqb (length t) 0 ≡ nothing t
nothing_length [] = refl
nothing_length (b ∷ t) = ne_eqb (suc (length t)) 0 (λ e. omega (arith, e))

pub nothing_is : {s : Strings} {i from to : ℕ} → StringStands s i → from ≡ get_or s.starts i 0 → to ≡ get_or s.starts (i + 1) 0 → eqb from to ≡ nothing (string_at s i)
nothing_is {s} {i} {from} {to} h e f =
    let k = part_stands h e f in
    let l = length-slice from to s.bytes k.1 in
    let m = ap length (part_is h e f) in
    go (length (string_at s i)) (omega (arith, l, m, k.0)) (eqb from to) refl ∙ nothing_length (string_at s i)
  where
    go : (n : ℕ) → n + from ≡ to → (x : Bool) → eqb from to ≡ x → eqb from to ≡ eqb n 0
    go n d true q = let z = eqb-true from to q in q ∙ sym (eq-eqb n 0 (omega (arith, z, d)))
    go n d false q = q ∙ sym (ne_eqb n 0 (λ z. eqb-false from to q (omega (arith, d, z))))

-- a string that is no name, and one that is neither empty nor a scale
pub no_name_is : {s : Strings} {i from to : ℕ} {dirty : Bool} → StringStands s i → from ≡ get_or s.starts i 0 → to ≡ get_or s.starts (i + 1) 0 → dirty ≡ unclean (slice from to s.bytes) → (eqb from to || dirty) ≡ no_name (string_at s i)
no_name_is h e f d = let n = nothing_is h e f in let p = d ∙ ap unclean (part_is h e f) in λ k. n k || p k

pub not_kept_is : {s : Strings} {i from to : ℕ} {bad : Bool} → StringStands s i → from ≡ get_or s.starts i 0 → to ≡ get_or s.starts (i + 1) 0 → bad ≡ no_scale (slice from to s.bytes) → (not (eqb from to) && bad) ≡ not_kept (string_at s i)
not_kept_is h e f d = let n = nothing_is h e f in let p = d ∙ ap no_scale (part_is h e f) in λ k. not (n k) && p k
