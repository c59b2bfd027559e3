-- Writing place by place: texts and lengths grow by one place at their end, and lists whose starts rise hold every place once. Assumes nothing.
use mathlib.Core.Path.{◌≡◌, refl, sym, ap, ◌∙◌}
use mathlib.Core.List.{List, [], ◌∷◌, ◌++◌, map, flatten, map-map}
use Prim.Native.Nat.{ℕ, zero, suc, ◌+◌, ◌-◌, ◌≤◌}
use native.Mathlib.Nat.{add_comm, sub-zero, add-zero, zero-add, suc-add, le_refl, le_trans}
use native.Mathlib.Numerals.{add-one}
use native.Mathlib.Omega.{arith}
use lib.ListN.{length, length-map}
use Rattle.lines.specs.Passes.{start, size}
use Rattle.refusals.specs.Meaning.{Starts}
use Rattle.layout.specs.Layout.{Bytes, TextAttribute, Word, escaped}
use Rattle.text_tables.specs.Tables.{all_words, all_attributes}
use Rattle.text_tables.specs.Written.{Unwritten, places_from, places_in, attribute_from, label_from, word_from, sequence_from, sequences_in, written_text, attribute_text, word_text, sequence_text, in_all, attribute_length, word_length, LengthOfTables}
use Rattle.text_tables.proofs.Lists.{map_append, flatten_append, flatten_one, all_append}
use Rattle.text_tables.proofs.Written.{sum_of_sequences, length_is_sum, lengths_apart}

-- ---- one place more
pub places_more : (at n : ℕ) → places_from at (n + 1) ≡ places_from at n ++ ((at + n) ∷ [])
unfolding places_from
places_more at zero = ap (λ (k : ℕ). k ∷ []) (sym (add-zero at))
places_more at (suc n) =
    ap (places_from at) (add-one (suc n))
    ∙ ap (λ (ks : List ℕ). at ∷ ks) (ap (places_from (at + 1)) (sym (add-one n)) ∙ places_more (at + 1) n)
    ∙ ap (λ (k : ℕ). at ∷ (places_from (at + 1) n ++ (k ∷ []))) (omega arith)

pub places_length : (at n : ℕ) → length (places_from at n) ≡ n
unfolding places_from
places_length at zero = refl
places_length at (suc n) = ap suc (places_length (at + 1) n)

-- a text that is written place by place
pub texts_none : (f : ℕ → Bytes) (at : ℕ) → flatten (map f (places_from at 0)) ≡ []
unfolding places_from flatten
texts_none f at = refl

pub texts_more : (f : ℕ → Bytes) (at n : ℕ) → flatten (map f (places_from at (n + 1))) ≡ flatten (map f (places_from at n)) ++ f (at + n)
texts_more f at n =
    ap (λ (ks : List ℕ). flatten (map f ks)) (places_more at n)
    ∙ ap (λ (ts : List Bytes). flatten ts) (map_append f (places_from at n) ((at + n) ∷ []))
    ∙ flatten_append (map f (places_from at n)) (f (at + n) ∷ [])
    ∙ ap (λ (t : Bytes). flatten (map f (places_from at n)) ++ t) (flatten_one (f (at + n)))

-- its length, place by place
pub lengths_none : (g : ℕ → ℕ) (at : ℕ) → in_all (map g (places_from at 0)) ≡ 0
unfolding places_from in_all
lengths_none g at = refl

pub lengths_more : (g : ℕ → ℕ) (at n : ℕ) → in_all (map g (places_from at (n + 1))) ≡ in_all (map g (places_from at n)) + g (at + n)
unfolding in_all
lengths_more g at n =
    ap (λ (ks : List ℕ). in_all (map g ks)) (places_more at n)
    ∙ ap in_all (map_append g (places_from at n) ((at + n) ∷ []))
    ∙ all_append (map g (places_from at n)) (g (at + n) ∷ [])
    ∙ ap (λ (k : ℕ). in_all (map g (places_from at n)) + k) (add-zero (g (at + n)))

-- ---- what is written, by places
module _ (t : Unwritten) where
  pub word_by_places : (w : ℕ) → word_text (word_from t w) ≡ (escaped (label_from t w) ++ flatten (map (λ (a : ℕ). attribute_text (attribute_from t a)) (places_in t.word_starts_of w))) ++ (10 ∷ [])
  word_by_places w =
      ap (λ (ts : List Bytes). (escaped (label_from t w) ++ flatten ts) ++ (10 ∷ [])) (map-map attribute_text (attribute_from t) (places_in t.word_starts_of w))

  pub sequence_by_places : (i : ℕ) → sequence_text (sequence_from t i) ≡ flatten (map (λ (w : ℕ). word_text (word_from t w)) (places_in t.line_starts i)) ++ (10 ∷ [])
  sequence_by_places i = ap (λ (ts : List Bytes). flatten ts ++ (10 ∷ [])) (map-map word_text (word_from t) (places_in t.line_starts i))

  pub text_by_places : written_text t ≡ flatten (map (λ (i : ℕ). sequence_text (sequence_from t i)) (places_from 0 t.instances))
  text_by_places = sum_of_sequences (sequences_in t) ∙ ap (λ (ts : List Bytes). flatten ts) (map-map sequence_text (sequence_from t) (places_from 0 t.instances))

-- ---- lists whose starts rise hold every place once
places_append : (at m n : ℕ) → places_from at m ++ places_from (at + m) n ≡ places_from at (m + n)
unfolding places_from
places_append at zero n = rw (add-zero at, zero-add n)
places_append at (suc m) n =
    let e : at + suc m ≡ at + 1 + m = omega arith in
    rw (suc-add m n, e) (ap (λ (ks : List ℕ). at ∷ ks) (places_append (at + 1) m n))

rises_on : (s : List ℕ) (n e at m : ℕ) → Starts s n e → at + m ≤ n → start s at ≤ start s (at + m)
rises_on s n e at zero h l = rw (add-zero at) (le_refl (start s at))
rises_on s n e at (suc m) h l =
    let r = rises_on s n e at m h (omega (arith, l)) in
    let k : at + suc m ≡ at + m + 1 = omega arith in
    rw k (le_trans r (h.rises (at + m) (omega (arith, l))))

lists_from : (s : List ℕ) (n e at m : ℕ) → Starts s n e → at + m ≤ n → flatten (map (places_in s) (places_from at m)) ≡ places_from (start s at) (start s (at + m) - start s at)
unfolding places_from flatten
lists_from s n e at zero h l =
    let z : start s (at + 0) - start s at ≡ 0 = rw (add-zero at) (omega arith) in
    rw z
lists_from s n e at (suc m) h l =
    let one : start s at ≤ start s (at + 1) = h.rises at (omega (arith, l)) in
    let on : start s (at + 1) ≤ start s (at + 1 + m) = rises_on s n e (at + 1) m h (omega (arith, l)) in
    let next : start s at + size s at ≡ start s (at + 1) = omega (arith, one) in
    let k : at + suc m ≡ at + 1 + m = omega arith in
    let sum : size s at + (start s (at + 1 + m) - start s (at + 1)) ≡ start s (at + 1 + m) - start s at = omega (arith, one, on) in
    ap (λ (ks : List ℕ). places_in s at ++ ks) (lists_from s n e (at + 1) m h (omega (arith, l)))
    ∙ ap (λ (p : ℕ). places_in s at ++ places_from p (start s (at + 1 + m) - start s (at + 1))) (sym next)
    ∙ places_append (start s at) (size s at) (start s (at + 1 + m) - start s (at + 1))
    ∙ ap (places_from (start s at)) sum
    ∙ ap (λ (p : ℕ). places_from (start s at) (start s p - start s at)) (sym k)

pub every_place : (s : List ℕ) (n e : ℕ) → Starts s n e → flatten (map (places_in s) (places_from 0 n)) ≡ places_from 0 e
every_place s n e h =
    lists_from s n e 0 n h (omega arith)
    ∙ ap (λ (k : ℕ). places_from (start s 0) (start s k - start s 0)) (zero-add n)
    ∙ rw (h.begins, h.ends, sub-zero e)

-- a list of lists made place by place
map_flatten : {A : Type 0} (f : ℕ → A) (g : ℕ → List ℕ) (ks : List ℕ) → flatten (map (λ (k : ℕ). map f (g k)) ks) ≡ map f (flatten (map g ks))
unfolding flatten
map_flatten f g [] = refl
map_flatten {A} f g (k ∷ ks) = ap (λ (xs : List A). map f (g k) ++ xs) (map_flatten f g ks) ∙ sym (map_append f (g k) (flatten (map g ks)))

module _ (t : Unwritten) (words attributes : ℕ) (lines : Starts t.line_starts t.instances words) (begins : Starts t.word_starts_of words attributes) where
  pub words_by_places : all_words (sequences_in t) ≡ map (word_from t) (places_from 0 words)
  words_by_places = map_flatten (word_from t) (places_in t.line_starts) (places_from 0 t.instances) ∙ ap (map (word_from t)) (every_place t.line_starts t.instances words lines)

  pub attributes_by_places : all_attributes (map (word_from t) (places_from 0 words)) ≡ map (attribute_from t) (places_from 0 attributes)
  attributes_by_places =
      ap (λ (xs : List (List TextAttribute)). flatten xs) (map-map (λ (w : Word). w.attributes) (word_from t) (places_from 0 words))
      ∙ map_flatten (attribute_from t) (places_in t.word_starts_of) (places_from 0 words)
      ∙ ap (map (attribute_from t)) (every_place t.word_starts_of words attributes begins)

-- ---- the length: labels with their line feeds, attributes, and a line feed for each sequence
words_apart : (vs : List Word) → in_all (map word_length vs) ≡ in_all (map (λ (v : Word). length (escaped v.label) + 1) vs) + in_all (map attribute_length (all_attributes vs))
unfolding in_all flatten
words_apart [] = refl
words_apart (v ∷ vs) =
    rw (words_apart vs, map_append attribute_length v.attributes (all_attributes vs), all_append (map attribute_length v.attributes) (map attribute_length (all_attributes vs)))
    (omega arith)

pub length_of_tables : LengthOfTables
length_of_tables t words attributes lines begins =
    let ss : List (List Word) = sequences_in t in
    let vs : List Word = map (word_from t) (places_from 0 words) in
    let count : length ss ≡ t.instances = length-map (places_from 0 t.instances) (sequence_from t) ∙ places_length 0 t.instances in
    let labels : ℕ = in_all (map (λ (w : ℕ). length (escaped (label_from t w)) + 1) (places_from 0 words)) in
    let marks : ℕ = in_all (map (λ (a : ℕ). attribute_length (attribute_from t a)) (places_from 0 attributes)) in
    let first : in_all (map (λ (v : Word). length (escaped v.label) + 1) vs) ≡ labels = ap in_all (map-map (λ (v : Word). length (escaped v.label) + 1) (word_from t) (places_from 0 words)) in
    let second : in_all (map attribute_length (all_attributes vs)) ≡ marks =
    ap (λ (xs : List TextAttribute). in_all (map attribute_length xs)) (attributes_by_places t words attributes lines begins)
    ∙ ap in_all (map-map attribute_length (attribute_from t) (places_from 0 attributes)) in
    let all : in_all (map word_length (all_words ss)) ≡ labels + marks =
    ap (λ (us : List Word). in_all (map word_length us)) (words_by_places t words attributes lines begins)
    ∙ words_apart vs
    ∙ ap (λ (k : ℕ). k + in_all (map attribute_length (all_attributes vs))) first
    ∙ ap (λ (k : ℕ). labels + k) second in
    let sum : length (written_text t) ≡ in_all (map word_length (all_words ss)) + length ss = length_is_sum ss ∙ lengths_apart ss in
    sum ∙ ap (λ (k : ℕ). k + length ss) all ∙ ap (λ (k : ℕ). labels + marks + k) count ∙ add_comm (labels + marks) t.instances
