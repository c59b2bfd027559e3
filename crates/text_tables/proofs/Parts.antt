-- Lists that lie flat, read back by their starts. Assumes nothing.
use mathlib.Core.Path.{◌≡◌, refl, sym, ap, ◌∙◌}
use mathlib.Core.List.{List, [], ◌∷◌, ◌++◌, map, flatten, append_assoc}
use Prim.Native.Nat.{ℕ, zero, suc, ◌+◌, ◌-◌, ◌≤◌, ◌<◌}
use native.Mathlib.Nat.{add-zero, zero-add, not-suc-le-zero, le_of_suc-le-suc, add_assoc}
use native.Mathlib.Numerals.{add-one}
use native.Mathlib.Omega.{arith}
use lib.ListN.{length, get_or, take, drop, length-append}
use lib.Seq.{drop-cons, take-append_seam, drop-append_seam}
use Rattle.lines.specs.Passes.{start, size}
use Rattle.refusals.specs.Meaning.{Starts}
use Rattle.refusals.proofs.Meant.{within}
use Rattle.layout.specs.Layout.{Bytes}
use Rattle.text_tables.specs.Tables.{starts_from, flat}
use Rattle.text_tables.specs.Written.{string_at, places_from, in_all}

-- ---- starts
first_start : (at : ℕ) (ns : List ℕ) → get_or (starts_from at ns) 0 0 ≡ at
unfolding starts_from
first_start at [] = refl
first_start at (n ∷ ns) = refl

rising : (at : ℕ) (ns : List ℕ) (i : ℕ) → i < length ns → get_or (starts_from at ns) i 0 ≤ get_or (starts_from at ns) (suc i) 0
unfolding starts_from
rising at [] i h = absurd (not-suc-le-zero h)
rising at (n ∷ ns) zero h = rw (first_start (at + n) ns) (omega arith)
rising at (n ∷ ns) (suc i) h = rising (at + n) ns i (le_of_suc-le-suc h)

ending : (at : ℕ) (ns : List ℕ) → get_or (starts_from at ns) (length ns) 0 ≡ at + in_all ns
unfolding starts_from in_all
ending at [] = sym (add-zero at)
ending at (n ∷ ns) = ending (at + n) ns ∙ add_assoc at n (in_all ns)

pub starts_rise_lem : (ns : List ℕ) → Starts (starts_from 0 ns) (length ns) (in_all ns)
starts_rise_lem ns = record {
  begins = first_start 0 ns;
  rises = λ i h. rw (add-one i) (rising 0 ns i h);
  ends = ending 0 ns ∙ zero-add (in_all ns);
}

-- what a list holds ends within the count
pub list_within : (s : List ℕ) (n e i : ℕ) → Starts s n e → i < n → start s i + size s i ≤ e
list_within s n e i h l =
    let r = h.rises i l in
    let m = within h (i + 1) (omega (arith, l)) in
    omega (arith, r, m)

-- ---- list i of lists that lie flat
module _ {A : Type 0} where
  part_from : (front : List A) (xss : List (List A)) (i : ℕ) → i < length xss →
      take (get_or (starts_from (length front) (map length xss)) (suc i) 0 - get_or (starts_from (length front) (map length xss)) i 0) (drop (get_or (starts_from (length front) (map length xss)) i 0) (front ++ flatten xss))
      ≡ get_or xss i []
  unfolding starts_from flatten
  part_from front [] i h = absurd (not-suc-le-zero h)
  part_from front (x ∷ xss) zero h =
      let n : length front + length x - length front ≡ length x = omega arith in
      rw (first_start (length front + length x) (map length xss), n, drop-append_seam front (x ++ flatten xss)) (take-append_seam x (flatten xss))
  part_from front (x ∷ xss) (suc i) h =
      let s : List ℕ = starts_from (length front + length x) (map length xss) in
      ap (λ (ys : List A). take (get_or s (suc i) 0 - get_or s i 0) (drop (get_or s i 0) ys)) (sym (append_assoc front x (flatten xss)))
      ∙ ap (λ (k : ℕ). take (get_or (starts_from k (map length xss)) (suc i) 0 - get_or (starts_from k (map length xss)) i 0) (drop (get_or (starts_from k (map length xss)) i 0) ((front ++ x) ++ flatten xss))) (sym (length-append front x))
      ∙ part_from (front ++ x) xss i (le_of_suc-le-suc h)

  pub part_is : (xss : List (List A)) (i : ℕ) → i < length xss → take (size (starts_from 0 (map length xss)) i) (drop (start (starts_from 0 (map length xss)) i) (flatten xss)) ≡ get_or xss i []
  part_is xss i h = rw (add-one i) (part_from [] xss i h)

  -- places one after the other
  pub map_places : (f : ℕ → A) (xs : List A) (d : A) (at n : ℕ) → at + n ≤ length xs → ((k : ℕ) → k < at + n → f k ≡ get_or xs k d) → map f (places_from at n) ≡ take n (drop at xs)
  unfolding places_from
  map_places f xs d at zero h e = refl
  map_places f xs d at (suc n) h e =
      let here : f at ≡ get_or xs at d = e at (omega arith) in
      let rest : map f (places_from (at + 1) n) ≡ take n (drop (at + 1) xs) = map_places f xs d (at + 1) n (omega (arith, h)) (λ k l. e k (omega (arith, l))) in
      (λ i. here i ∷ rest i)
      ∙ ap (λ (k : ℕ). get_or xs at d ∷ take n (drop k xs)) (add-one at)
      ∙ ap (take (suc n)) (sym (drop-cons xs at d (omega (arith, h))))

-- a string of strings that lie flat
pub string_is : (xs : List Bytes) (i : ℕ) → i < length xs → string_at (flat xs) i ≡ get_or xs i []
unfolding string_at
string_is xs i h = part_is xs i h

-- an element of a table made of another, within its length
pub mapped_at : {A B : Type 0} (f : A → B) (xs : List A) (i : ℕ) (d : A) (e : B) → i < length xs → get_or (map f xs) i e ≡ f (get_or xs i d)
mapped_at f [] i d e h = absurd (not-suc-le-zero h)
mapped_at f (x ∷ xs) zero d e h = refl
mapped_at f (x ∷ xs) (suc i) d e h = mapped_at f xs i d e (le_of_suc-le-suc h)
