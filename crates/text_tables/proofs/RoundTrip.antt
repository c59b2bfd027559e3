-- The words that tables stand for: of the tables of sequences they are these sequences again; so what is written reads back. Assumes nothing.
use mathlib.Core.Path.{◌≡◌, refl, sym, ap, ◌∙◌}
use mathlib.Core.List.{List, [], ◌∷◌, map}
use Prim.Native.Nat.{ℕ, zero, suc, ◌+◌, ◌-◌, ◌≤◌, ◌<◌}
use native.Mathlib.Nat.{not-suc-le-zero, le_of_suc-le-suc}
use native.Mathlib.Omega.{arith}
use lib.ListN.{length, get_or, take, drop, length-map}
use lib.Seq.{take-length}
use Rattle.lines.specs.Passes.{start, size}
use Rattle.refusals.specs.Meaning.{Starts}
use Rattle.layout.specs.Layout.{Bytes, TextAttribute, Word, sequences, NoneEmpty}
use Rattle.text_tables.specs.Distinct.{id_in, distinct}
use Rattle.text_tables.specs.Tables.{starts_from, flat, all_words, all_attributes, labels_of, names_of, scales_of, tables}
use Rattle.text_tables.specs.Written.{Unwritten, unwritten, string_at, places_from, places_in, attribute_from, word_from, sequence_from, sequences_in, all_lines, written_lines}
use Rattle.text_tables.specs.RoundTrip.{SameSequences, EachHasWords, ReadsBack}
use Rattle.text_tables.proofs.Lists.{length_flatten}
use Rattle.text_tables.proofs.Known.{EachKnown, each_known, id_name}
use Rattle.text_tables.proofs.Parts.{starts_rise_lem, list_within, part_is, map_places, string_is, mapped_at}
use Rattle.text_tables.proofs.Written.{sequences_of_lines}

-- a name by its id
known_at : (known ns : List Bytes) (i : ℕ) → EachKnown known ns → i < length ns → id_in known (get_or ns i []) < length known
known_at known [] i h l = absurd (not-suc-le-zero l)
known_at known (n ∷ ns) zero h l = h.0
known_at known (n ∷ ns) (suc i) h l = known_at known ns i h.1 (le_of_suc-le-suc l)

pub id_below : (ns : List Bytes) (i : ℕ) → i < length ns → get_or (map (id_in (distinct ns)) ns) i 0 < length (distinct ns)
id_below ns i l = rw (mapped_at (id_in (distinct ns)) ns i [] 0 l) (known_at (distinct ns) ns i (each_known [] ns) l)

name_back : (ns : List Bytes) (i : ℕ) → i < length ns → string_at (flat (distinct ns)) (get_or (map (id_in (distinct ns)) ns) i 0) ≡ get_or ns i []
name_back ns i l =
    let n : Bytes = get_or ns i [] in
    let below : id_in (distinct ns) n < length (distinct ns) = known_at (distinct ns) ns i (each_known [] ns) l in
    ap (string_at (flat (distinct ns))) (mapped_at (id_in (distinct ns)) ns i [] 0 l)
    ∙ string_is (distinct ns) (id_in (distinct ns) n) below
    ∙ id_name (distinct ns) n [] below

abbrev no_attribute : TextAttribute
no_attribute = record { name = []; scale = [] }

abbrev no_word : Word
no_word = record { label = []; attributes = [] }

counts : (vs : List Word) → map length (map (λ (v : Word). v.attributes) vs) ≡ map (λ (v : Word). length v.attributes) vs
counts [] = refl
counts (v ∷ vs) = ap (λ (ks : List ℕ). length v.attributes ∷ ks) (counts vs)

module _ (ss : List (List Word)) where
  abbrev vs : List Word
  vs = all_words ss

  abbrev xs : List TextAttribute
  xs = all_attributes vs

  abbrev t : Unwritten
  t = unwritten (tables ss)

  attribute_back : (a : ℕ) → a < length xs → attribute_from t a ≡ get_or xs a no_attribute
  unfolding tables
  attribute_back a l =
      let named : a < length (names_of xs) = rw (length-map xs (λ (x : TextAttribute). x.name)) l in
      let scaled : a < length (scales_of xs) = rw (length-map xs (λ (x : TextAttribute). x.scale)) l in
      let name = name_back (names_of xs) a named ∙ mapped_at (λ (x : TextAttribute). x.name) xs a no_attribute [] l in
      let scale = string_is (scales_of xs) a scaled ∙ mapped_at (λ (x : TextAttribute). x.scale) xs a no_attribute [] l in
      λ i. record { name = name i; scale = scale i }

  pub word_counts : Starts (starts_from 0 (map (λ (v : Word). length v.attributes) vs)) (length vs) (length xs)
  word_counts =
      let n = starts_rise_lem (map (λ (v : Word). length v.attributes) vs) in
      rw (length_flatten (map (λ (v : Word). v.attributes) vs), counts vs, ← (length-map vs (λ (v : Word). length v.attributes))) n

  pub line_counts : Starts (starts_from 0 (map (λ (s : List Word). length s) ss)) (length ss) (length vs)
  line_counts = rw (length_flatten ss, ← (length-map ss (λ (s : List Word). length s))) (starts_rise_lem (map (λ (s : List Word). length s) ss))

  word_back : (w : ℕ) → w < length vs → word_from t w ≡ get_or vs w no_word
  unfolding tables
  word_back w l =
      let labelled : w < length (labels_of vs) = rw (length-map vs (λ (v : Word). v.label)) l in
      let lists : List (List TextAttribute) = map (λ (v : Word). v.attributes) vs in
      let listed : w < length lists = rw (length-map vs (λ (v : Word). v.attributes)) l in
      let s : List ℕ = starts_from 0 (map (λ (v : Word). length v.attributes) vs) in
      let inside : start s w + size s w ≤ length xs = list_within s (length vs) (length xs) w word_counts l in
      let label = name_back (labels_of vs) w labelled ∙ mapped_at (λ (v : Word). v.label) vs w no_word [] l in
      let parts : map (attribute_from t) (places_in s w) ≡ (get_or vs w no_word).attributes =
      map_places (attribute_from t) xs no_attribute (start s w) (size s w) inside (λ k h. attribute_back k (omega (arith, h, inside)))
      ∙ ap (λ (ns : List ℕ). take (size (starts_from 0 ns) w) (drop (start (starts_from 0 ns) w) xs)) (sym (counts vs))
      ∙ part_is lists w listed
      ∙ mapped_at (λ (v : Word). v.attributes) vs w no_word [] l in
      λ i. record { label = label i; attributes = parts i }

  sequence_back : (i : ℕ) → i < length ss → sequence_from t i ≡ get_or ss i []
  unfolding tables
  sequence_back i l =
      let s : List ℕ = starts_from 0 (map (λ (s : List Word). length s) ss) in
      let inside : start s i + size s i ≤ length vs = list_within s (length ss) (length vs) i line_counts l in
      map_places (word_from t) vs no_word (start s i) (size s i) inside (λ k h. word_back k (omega (arith, h, inside)))
      ∙ part_is ss i l

  -- the words that the tables of sequences stand for are these sequences
  pub words_back : sequences_in t ≡ ss
  unfolding tables
  words_back =
      let all : 0 + length ss ≤ length ss = omega arith in
      map_places (sequence_from t) ss [] 0 (length ss) all (λ k h. sequence_back k (omega (arith, h))) ∙ take-length ss

-- ---- what is written reads back
pub reads_back : ReadsBack
reads_back ss h =
    let same : sequences (written_lines (unwritten (tables ss))) ≡ ss = ap (λ (rs : List (List Word)). sequences (all_lines rs)) (words_back ss) ∙ sequences_of_lines ss h in
    ap tables same

pub same_sequences : SameSequences
same_sequences t h =
    let same : sequences (written_lines t) ≡ sequences_in t = sequences_of_lines (sequences_in t) h in
    (same, words_back (sequences (written_lines t)) ∙ same)

-- no sequence is empty where each has a word
some_places : (f : ℕ → Word) (at n : ℕ) (ss : List (List Word)) → 0 < n → NoneEmpty ss → NoneEmpty (map f (places_from at n) ∷ ss)
unfolding places_from
some_places f at zero ss h k = absurd (not-suc-le-zero h)
some_places f at (suc n) ss h k = k

pub each_has_words : EachHasWords
unfolding places_from
each_has_words t h = go 0 t.instances (λ k l. h k (omega (arith, l)))
  where
    go : (at n : ℕ) → ((k : ℕ) → k < at + n → get_or t.line_starts k 0 < get_or t.line_starts (k + 1) 0) → NoneEmpty (map (sequence_from t) (places_from at n))
    go at zero e = tt
    go at (suc n) e =
        let here = e at (omega arith) in
        some_places (word_from t) (start t.line_starts at) (size t.line_starts at) (map (sequence_from t) (places_from (at + 1) n)) (omega (arith, here)) (go (at + 1) n (λ k l. e k (omega (arith, l))))
