-- Only the needed fronts of the writer's tables matter. Assumes nothing.
use mathlib.Core.Path.{◌≡◌, refl, ap, ◌∙◌}
use mathlib.Core.List.{List, [], ◌∷◌, ◌++◌, map}
use Prim.Native.Nat.{ℕ, zero, suc, ◌+◌, ◌-◌, ◌≤◌, ◌<◌}
use native.Mathlib.Omega.{arith}
use lib.ListN.{length, get_or, take, drop, length-map, length-drop, get_or-append}
use lib.Seq.{take-append-le, drop-append-le}
use Rattle.lines.specs.Passes.{start, size}
use Rattle.layout.specs.Layout.{Bytes, TextAttribute, Word, sequences}
use Rattle.text_tables.specs.Distinct.{id_in, distinct}
use Rattle.text_tables.specs.Tables.{Strings, starts_from, flat, all_words, all_attributes, labels_of, names_of, scales_of, tables}
use Rattle.text_tables.specs.Written.{Unwritten, unwritten, string_at, places_from, places_in, attribute_from, word_from, sequence_from, all_lines, in_all}
use Rattle.text_tables.specs.RoundTrip.{Amounts, amounts_of}
use Rattle.text_tables.specs.Tails.{Tails, strings_with, lent_with, StringsWithin, TablesWithin, TailsUnread, LentReadsBack}
use Rattle.text_tables.proofs.Lists.{length_flatten}
use Rattle.text_tables.proofs.Parts.{starts_rise_lem, list_within}
use Rattle.text_tables.proofs.RoundTrip.{id_below, word_counts, line_counts, reads_back}

-- ---- a list, and a part of one, with more behind it
start_front : (s tail : List ℕ) (i : ℕ) → i < length s → start (s ++ tail) i ≡ start s i
start_front s tail i l = get_or-append s tail 0 i l

size_front : (s tail : List ℕ) (i : ℕ) → i + 1 < length s → size (s ++ tail) i ≡ size s i
size_front s tail i l = rw (get_or-append s tail 0 (i + 1) l, get_or-append s tail 0 i (omega (arith, l)))

part_front : (xs tail : Bytes) (at n : ℕ) → at + n ≤ length xs → take n (drop at (xs ++ tail)) ≡ take n (drop at xs)
part_front xs tail at n l =
    let rest : n ≤ length (drop at xs) = rw (length-drop at xs) (omega (arith, l)) in
    ap (take n) (drop-append-le at xs tail (omega (arith, l))) ∙ take-append-le n (drop at xs) tail rest

string_front : (s tail : Strings) (n i : ℕ) → StringsWithin s n → i < n → string_at (strings_with s tail) i ≡ string_at s i
unfolding string_at
string_front s tail n i h l =
    let inside = h.starts in
    rw (start_front s.starts tail.starts i (omega (arith, l, inside)), get_or-append s.starts tail.starts 0 (i + 1) (omega (arith, l, inside)))
    (part_front s.bytes tail.bytes (start s.starts i) (size s.starts i) (h.bytes i l))

same_places : {A : Type 0} (f g : ℕ → A) (at n : ℕ) → ((k : ℕ) → k < at + n → f k ≡ g k) → map f (places_from at n) ≡ map g (places_from at n)
unfolding places_from
same_places f g at zero h = refl
same_places f g at (suc n) h =
    let here = h at (omega arith) in
    let rest = same_places f g (at + 1) n (λ k l. h k (omega (arith, l))) in
    λ i. here i ∷ rest i

-- ---- what is written
module _ (t : Unwritten) (n : Amounts) (h : TablesWithin t n) (tails : Tails) where
  attribute_front : (a : ℕ) → a < n.attributes → attribute_from (lent_with t tails) a ≡ attribute_from t a
  attribute_front a l =
      let inside = h.ids in
      let id = get_or-append t.ids tails.ids 0 a (omega (arith, l, inside)) in
      let name = ap (string_at (strings_with t.names tails.names)) id ∙ string_front t.names tails.names n.names (get_or t.ids a 0) h.names (h.named a l) in
      let scale = string_front t.scales tails.scales n.attributes a h.scales l in
      λ i. record { name = name i; scale = scale i }

  word_front : (w : ℕ) → w < n.words → word_from (lent_with t tails) w ≡ word_from t w
  word_front w l =
      let inside = h.references in
      let lists = h.word_starts_of in
      let s : List ℕ = t.word_starts_of in
      let id = get_or-append t.references tails.references 0 w (omega (arith, l, inside)) in
      let label = ap (string_at (strings_with t.labels tails.labels)) id ∙ string_front t.labels tails.labels n.labels (get_or t.references w 0) h.labels (h.labelled w l) in
      let ends = list_within s n.words n.attributes w h.words l in
      let first = start_front s tails.word_starts_of w (omega (arith, l, lists)) in
      let many = size_front s tails.word_starts_of w (omega (arith, l, lists)) in
      let parts : map (attribute_from (lent_with t tails)) (places_in (s ++ tails.word_starts_of) w) ≡ map (attribute_from t) (places_in s w) =
      (λ i. map (attribute_from (lent_with t tails)) (places_from (first i) (many i)))
      ∙ same_places (attribute_from (lent_with t tails)) (attribute_from t) (start s w) (size s w) (λ k m. attribute_front k (omega (arith, m, ends))) in
      λ i. record { label = label i; attributes = parts i }

  sequence_front : (j : ℕ) → j < t.instances → sequence_from (lent_with t tails) j ≡ sequence_from t j
  sequence_front j l =
      let lists = h.line_starts in
      let s : List ℕ = t.line_starts in
      let ends = list_within s t.instances n.words j h.lines l in
      let first = start_front s tails.line_starts j (omega (arith, l, lists)) in
      let many = size_front s tails.line_starts j (omega (arith, l, lists)) in
      (λ i. map (word_from (lent_with t tails)) (places_from (first i) (many i)))
      ∙ same_places (word_from (lent_with t tails)) (word_from t) (start s j) (size s j) (λ k m. word_front k (omega (arith, m, ends)))

pub tails_unread : TailsUnread
tails_unread t n h tails = same_places (sequence_from (lent_with t tails)) (sequence_from t) 0 t.instances (λ k l. sequence_front t n h tails k (omega (arith, l)))

-- ---- the tables of sequences have what their counts say
length_starts : (at : ℕ) (ns : List ℕ) → length (starts_from at ns) ≡ length ns + 1
unfolding starts_from
length_starts at [] = refl
length_starts at (m ∷ ns) = let r = length_starts (at + m) ns in omega (arith, r)

flat_held : (xs : List Bytes) → StringsWithin (flat xs) (length xs)
flat_held xs =
    let count = length-map xs (λ (x : Bytes). length x) in
    let long = length_starts 0 (map length xs) in
    let sum = length_flatten xs in
    record {
      starts = omega (arith, count, long);
      bytes = λ i l.
          let ends = list_within (starts_from 0 (map length xs)) (length (map length xs)) (in_all (map length xs)) i (starts_rise_lem (map length xs)) (omega (arith, l, count)) in
          omega (arith, ends, sum);
    }

pub tables_reached : (ss : List (List Word)) → TablesWithin (unwritten (tables ss)) (amounts_of ss)
unfolding tables
tables_reached ss =
    let vs : List Word = all_words ss in
    let xs : List TextAttribute = all_attributes vs in
    let named : length (names_of xs) ≡ length xs = length-map xs (λ (x : TextAttribute). x.name) in
    let labelled : length (labels_of vs) ≡ length vs = length-map vs (λ (v : Word). v.label) in
    let ids = length-map (names_of xs) (id_in (distinct (names_of xs))) in
    let refs = length-map (labels_of vs) (id_in (distinct (labels_of vs))) in
    let lines = length_starts 0 (map (λ (s : List Word). length s) ss) in
    let lists = length-map ss (λ (s : List Word). length s) in
    let begins = length_starts 0 (map (λ (v : Word). length v.attributes) vs) in
    let counts = length-map vs (λ (v : Word). length v.attributes) in
    record {
      lines = line_counts ss;
      line_starts = omega (arith, lines, lists);
      words = word_counts ss;
      word_starts_of = omega (arith, begins, counts);
      ids = omega (arith, ids, named);
      named = λ a l. id_below (names_of xs) a (omega (arith, l, named));
      references = omega (arith, refs, labelled);
      labelled = λ w l. id_below (labels_of vs) w (omega (arith, l, labelled));
      labels = flat_held (distinct (labels_of vs));
      names = flat_held (distinct (names_of xs));
      scales = rw (length-map xs (λ (x : TextAttribute). x.scale)) at (flat_held (scales_of xs));
    }

pub lent_reads_back : LentReadsBack
lent_reads_back ss h tails =
    ap (λ (rs : List (List Word)). tables (sequences (all_lines rs))) (tails_unread (unwritten (tables ss)) (amounts_of ss) (tables_reached ss) tails)
    ∙ reads_back ss h
