-- Laws of lists that tables are made by: one behind the other, flat, starts. Assumes nothing.
use mathlib.Core.Path.{◌≡◌, refl, sym, ap, ◌∙◌}
use mathlib.Core.List.{List, [], ◌∷◌, ◌++◌, map, flatten, append_assoc, append-nil}
use Prim.Native.Nat.{ℕ, suc, ◌+◌}
use native.Mathlib.Nat.{add_assoc, add-zero, zero-add}
use lib.ListN.{length, length-append}
use Rattle.layout.specs.Layout.{Bytes}
use Rattle.text_tables.specs.Tables.{starts_from, flat}
use Rattle.text_tables.specs.Pieces.{after_each}
use Rattle.text_tables.specs.Written.{in_all}

-- ---- one list behind another
pub map_append : {A B : Type 0} (f : A → B) (xs ys : List A) → map f (xs ++ ys) ≡ map f xs ++ map f ys
map_append f [] ys = refl
map_append {B = B} f (x ∷ xs) ys = ap (λ (zs : List B). f x ∷ zs) (map_append f xs ys)

pub flatten_append : {A : Type 0} (xs ys : List (List A)) → flatten (xs ++ ys) ≡ flatten xs ++ flatten ys
unfolding flatten
flatten_append [] ys = refl
flatten_append {A} (x ∷ xs) ys = ap (λ (zs : List A). x ++ zs) (flatten_append xs ys) ∙ sym (append_assoc x (flatten xs) (flatten ys))

pub flatten_one : {A : Type 0} (xs : List A) → flatten (xs ∷ []) ≡ xs
unfolding flatten
flatten_one xs = append-nil xs

pub each_none : {S A : Type 0} (step : S → A → S) (s : S) → after_each step s [] ≡ s
unfolding after_each
each_none step s = refl

pub each_next : {S A : Type 0} (step : S → A → S) (s : S) (x : A) (xs : List A) → after_each step s (x ∷ xs) ≡ after_each step (step s x) xs
unfolding after_each
each_next step s x xs = refl

pub each_append : {S A : Type 0} (step : S → A → S) (s : S) (xs ys : List A) → after_each step s (xs ++ ys) ≡ after_each step (after_each step s xs) ys
unfolding after_each
each_append step s [] ys = refl
each_append step s (x ∷ xs) ys = each_append step (step s x) xs ys

-- ---- how much lists of these lengths hold
pub all_append : (ms ns : List ℕ) → in_all (ms ++ ns) ≡ in_all ms + in_all ns
unfolding in_all
all_append [] ns = sym (zero-add (in_all ns))
all_append (m ∷ ms) ns = ap (λ (k : ℕ). m + k) (all_append ms ns) ∙ sym (add_assoc m (in_all ms) (in_all ns))

pub length_flatten : {A : Type 0} (xs : List (List A)) → length (flatten xs) ≡ in_all (map length xs)
unfolding flatten in_all
length_flatten [] = refl
length_flatten (x ∷ xs) = length-append x (flatten xs) ∙ ap (λ (k : ℕ). length x + k) (length_flatten xs)

-- ---- where each of them begins, without where the last ends
unfoldable pub begins_from : ℕ → List ℕ → List ℕ
begins_from at [] = []
begins_from at (n ∷ ns) = at ∷ begins_from (at + n) ns

pub starts_begins : (at : ℕ) (ns : List ℕ) → starts_from at ns ≡ begins_from at ns ++ ((at + in_all ns) ∷ [])
unfolding starts_from begins_from in_all
starts_begins at [] = ap (λ (k : ℕ). k ∷ []) (sym (add-zero at))
starts_begins at (n ∷ ns) =
    ap (λ (ks : List ℕ). at ∷ ks) (starts_begins (at + n) ns ∙ ap (λ (k : ℕ). begins_from (at + n) ns ++ (k ∷ [])) (add_assoc at n (in_all ns)))

pub begins_append : (at : ℕ) (ms ns : List ℕ) → begins_from at (ms ++ ns) ≡ begins_from at ms ++ begins_from (at + in_all ms) ns
unfolding begins_from in_all
begins_append at [] ns = ap (λ (k : ℕ). begins_from k ns) (sym (add-zero at))
begins_append at (m ∷ ms) ns =
    ap (λ (ks : List ℕ). at ∷ ks) (begins_append (at + m) ms ns ∙ ap (λ (k : ℕ). begins_from (at + m) ms ++ begins_from k ns) (add_assoc at m (in_all ms)))

-- one more list, however long
pub begins_more : (ms : List ℕ) (n : ℕ) → begins_from 0 (ms ++ (n ∷ [])) ≡ begins_from 0 ms ++ (in_all ms ∷ [])
unfolding begins_from
begins_more ms n = begins_append 0 ms (n ∷ []) ∙ ap (λ (k : ℕ). begins_from 0 ms ++ (k ∷ [])) (zero-add (in_all ms))

pub length_begins : (at : ℕ) (ns : List ℕ) → length (begins_from at ns) ≡ length ns
unfolding begins_from
length_begins at [] = refl
length_begins at (n ∷ ns) = ap suc (length_begins (at + n) ns)

-- ---- strings that lie flat, one more at a time
pub flat_begins : (xs : List Bytes) (x : Bytes) → begins_from 0 (map length (xs ++ (x ∷ []))) ≡ begins_from 0 (map length xs) ++ (length (flatten xs) ∷ [])
flat_begins xs x =
    ap (begins_from 0) (map_append length xs (x ∷ []))
    ∙ begins_more (map length xs) (length x)
    ∙ ap (λ (k : ℕ). begins_from 0 (map length xs) ++ (k ∷ [])) (sym (length_flatten xs))

pub flat_bytes : (xs : List Bytes) (x : Bytes) → flatten (xs ++ (x ∷ [])) ≡ flatten xs ++ x
flat_bytes xs x = flatten_append xs (x ∷ []) ∙ ap (λ (ys : Bytes). flatten xs ++ ys) (flatten_one x)

pub flat_starts : (xs : List Bytes) → (flat xs).starts ≡ begins_from 0 (map length xs) ++ (length (flatten xs) ∷ [])
flat_starts xs = starts_begins 0 (map length xs) ∙ ap (λ (k : ℕ). begins_from 0 (map length xs) ++ (k ∷ [])) (zero-add (in_all (map length xs)) ∙ sym (length_flatten xs))
