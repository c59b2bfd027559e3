-- Counts and bytes of a text's tables against the bytes of the text. Assumes nothing.
use mathlib.Core.Path.{◌≡◌, refl, sym, ap, ◌∙◌}
use mathlib.Core.Bool.{Bool, true, false, cond, ◌||◌}
use mathlib.Core.List.{List, [], ◌∷◌, ◌++◌, map, flatten, append-nil}
use Prim.Native.Nat.{ℕ, zero, suc, ◌+◌, ◌*◌, ◌≤◌}
use native.Mathlib.Nat.{le_refl, le_trans, suc-ne-zero, zero-add}
use native.Mathlib.Omega.{arith}
use lib.Dec.{eqb, ltb}
use lib.ListN.{length, length-append, length-map}
use Rattle.layout.specs.Layout.{Bytes, TextAttribute, Word, Line, empty, word, escaped, scale_text, line_text, more_lines, text_of, SoundText, ended, sequences_from, sequences, NoneEmpty, line_words}
use Rattle.layout.proofs.Runs.{none_empty, every_word}
use Rattle.text_tables.specs.Distinct.{id_in, learnt, learnt_all, distinct}
use Rattle.text_tables.specs.Tables.{all_words, all_attributes, labels_of, names_of, scales_of}
use Rattle.text_tables.specs.Written.{in_all, attribute_length, word_length}
use Rattle.text_tables.specs.RoundTrip.{EachSoundWord}
use Rattle.text_tables.specs.Pieces.{Piece, pieces_of, after_each}
use Rattle.text_tables.specs.Tally.{Tally, tallied, tally_of}
use Rattle.text_tables.specs.InText.{FitsInText, FewWritten}
use Rattle.text_tables.proofs.Lists.{map_append, flatten_append}
use Rattle.text_tables.proofs.Tallied.{tally_means}
use Rattle.text_tables.proofs.Along.{Grown, grown}
use Rattle.text_tables.proofs.Written.{word_ended, length_word, length_is_sum, lengths_apart}
use Rattle.text_tables.proofs.RoundTrip.{words_back}
use Rattle.text_tables.proofs.Carried.{EachName, labels_named, all_attributes_lem, attributes_named, text_words_sound}

-- ---- a text is its words and its empty lines
abbrev line_span : Line → ℕ
line_span l = length (line_text l) + 1

empties : List Line → ℕ
empties [] = 0
empties (empty ∷ ls) = empties ls + 1
empties (word w ∷ ls) = empties ls

more_span : (ls : List Line) → length (more_lines ls) ≡ in_all (map line_span ls)
unfolding more_lines in_all
more_span [] = refl
more_span (l ∷ ls) = rw (length-append (line_text l) (more_lines ls), more_span ls) (omega arith)

text_span : (ls : List Line) → SoundText ls → length (text_of ls) + 1 ≡ in_all (map line_span ls)
unfolding text_of in_all
text_span [] h = absurd h
text_span (l ∷ ls) h = rw (length-append (line_text l) (more_lines ls), more_span ls) (omega arith)

word_span : (w : Word) → line_span (word w) ≡ word_length w
word_span w = sym (length-append (line_text (word w)) (10 ∷ [])) ∙ ap length (word_ended w) ∙ length_word w

parts_span : (ls : List Line) → in_all (map line_span ls) ≡ in_all (map word_length (line_words ls)) + empties ls
unfolding in_all empties line_text
parts_span [] = refl
parts_span (empty ∷ ls) = rw (parts_span ls) (omega arith)
parts_span (word w ∷ ls) = rw (word_span w, parts_span ls) (omega arith)

-- so many bytes at most are words
words_span : (ls : List Line) → SoundText ls → in_all (map word_length (all_words (sequences ls))) + empties ls ≡ length (text_of ls) + 1
words_span ls h =
    ap (λ (vs : List Word). in_all (map word_length vs) + empties ls) (every_word ls) ∙ sym (parts_span ls) ∙ sym (text_span ls h)

-- an empty line between two sequences
ended_few : (ws : List Word) → length (ended ws) ≤ 1
ended_few [] = omega arith
ended_few (w ∷ ws) = le_refl 1

sequences_few : (ws : List Word) (ls : List Line) → length (sequences_from ws ls) ≤ empties ls + 1
unfolding sequences_from empties
sequences_few ws [] = let e = ended_few ws in omega (arith, e)
sequences_few ws (empty ∷ ls) =
    let e = ended_few ws in
    let r = sequences_few [] ls in
    rw (length-append (ended ws) (sequences_from [] ls)) (omega (arith, e, r))
sequences_few ws (word w ∷ ls) = sequences_few (ws ++ (w ∷ [])) ls

-- ---- what a word holds
escaped_long : (n : Bytes) → length n ≤ length (escaped n)
unfolding escaped
escaped_long [] = le_refl 0
escaped_long (b ∷ n) = go (eqb b 58 || eqb b 92) (escaped_long n)
  where
    go : (t : Bool) → length n ≤ length (escaped n) → suc (length n) ≤ length (cond t (92 ∷ b ∷ escaped n) (b ∷ escaped n))
    go true h = omega (arith, h)
    go false h = omega (arith, h)

scale_long : (s : Bytes) → length s ≤ length (scale_text s)
unfolding scale_text
scale_long [] = le_refl 0
scale_long (b ∷ s) = omega arith

attributes_hold : (xs : List TextAttribute) → length xs + (length (flatten (names_of xs)) + length (flatten (scales_of xs))) ≤ in_all (map attribute_length xs)
unfolding flatten in_all
attributes_hold [] = omega arith
attributes_hold (x ∷ xs) =
    let r = attributes_hold xs in
    let n = escaped_long x.name in
    let s = scale_long x.scale in
    rw (length-append x.name (flatten (names_of xs)), length-append x.scale (flatten (scales_of xs))) (omega (arith, r, n, s))

names_apart : (xs ys : List TextAttribute) → length (flatten (names_of (xs ++ ys))) ≡ length (flatten (names_of xs)) + length (flatten (names_of ys))
names_apart xs ys =
    ap (λ (ns : List Bytes). length (flatten ns)) (map_append (λ (x : TextAttribute). x.name) xs ys)
    ∙ ap length (flatten_append (names_of xs) (names_of ys)) ∙ length-append (flatten (names_of xs)) (flatten (names_of ys))

scales_apart : (xs ys : List TextAttribute) → length (flatten (scales_of (xs ++ ys))) ≡ length (flatten (scales_of xs)) + length (flatten (scales_of ys))
scales_apart xs ys =
    ap (λ (ns : List Bytes). length (flatten ns)) (map_append (λ (x : TextAttribute). x.scale) xs ys)
    ∙ ap length (flatten_append (scales_of xs) (scales_of ys)) ∙ length-append (flatten (scales_of xs)) (flatten (scales_of ys))

words_hold : (vs : List Word) → length vs + length (flatten (labels_of vs)) + (length (all_attributes vs) + (length (flatten (names_of (all_attributes vs))) + length (flatten (scales_of (all_attributes vs))))) ≤ in_all (map word_length vs)
unfolding flatten in_all
words_hold [] = omega arith
words_hold (v ∷ vs) =
    let r = words_hold vs in
    let l = escaped_long v.label in
    let h = attributes_hold v.attributes in
    rw (
      length-append v.label (flatten (labels_of vs)),
      names_apart v.attributes (all_attributes vs),
      scales_apart v.attributes (all_attributes vs),
      length-append v.attributes (all_attributes vs),
    ) (omega (arith, r, l, h))

-- ---- names are not empty, and distinct ones are no more than all
named_long : (ns : List Bytes) → EachName ns → length ns ≤ length (flatten ns)
unfolding flatten
named_long [] h = le_refl 0
named_long ([] ∷ ns) h = absurd h.0
named_long ((b ∷ n) ∷ ns) h = let r = named_long ns h.1 in rw (length-append n (flatten ns)) (omega (arith, r))

-- the bytes of the names with one more: as many more as it has, where it is new
pub bytes_learnt : (known : List Bytes) (n : Bytes) → length (flatten (learnt known n)) ≡ cond (ltb (id_in known n) (length known)) (length (flatten known)) (length (flatten known) + length n)
unfolding learnt flatten
bytes_learnt known n = go (ltb (id_in known n) (length known))
  where
    go : (t : Bool) → length (flatten (cond t known (known ++ (n ∷ [])))) ≡ cond t (length (flatten known)) (length (flatten known) + length n)
    go true = refl
    go false =
        ap length (flatten_append known (n ∷ [])) ∙ length-append (flatten known) (n ++ []) ∙ ap (λ (m : Bytes). length (flatten known) + length m) (append-nil n)

distinct_few : (known ns : List Bytes) → length (flatten (learnt_all known ns)) ≤ length (flatten known) + length (flatten ns)
unfolding learnt_all flatten
distinct_few known [] = omega arith
distinct_few known (n ∷ ns) =
    let r = distinct_few (learnt known n) ns in
    let b : length (flatten (learnt known n)) ≤ length (flatten known) + length n = rw (bytes_learnt known n) (go (ltb (id_in known n) (length known))) in
    rw (length-append n (flatten ns)) (omega (arith, r, b))
  where
    go : (t : Bool) → cond t (length (flatten known)) (length (flatten known) + length n) ≤ length (flatten known) + length n
    go true = omega arith
    go false = le_refl _

distinct_all : (ns : List Bytes) → length (flatten (distinct ns)) ≤ length (flatten ns)
unfolding flatten
distinct_all ns = rw (zero-add (length (flatten ns))) at (distinct_few [] ns)

sequences_hold : (ss : List (List Word)) → NoneEmpty ss → length ss ≤ length (flatten ss)
unfolding flatten
sequences_hold [] h = le_refl 0
sequences_hold ([] ∷ ss) h = absurd h
sequences_hold ((w ∷ ws) ∷ ss) h = let r = sequences_hold ss h in rw (length-append ws (flatten ss)) (omega (arith, r))

-- ---- all of it, of s sequences with w words and a attributes, of l, m and b bytes, e empty lines, in a text of n bytes
record Parts (s w a l m b e n : ℕ) : Type 0 where
  held : w + l + (a + (m + b)) + e ≤ n + 1
  parted : s ≤ e + 1
  full : s ≤ w
  labelled : w ≤ l
  named : a ≤ m
  none : w ≡ 0 → (l ≡ 0) × (a ≡ 0) × (m ≡ 0) × (b ≡ 0)

-- where there is no word there is nothing; where there is one, its label and its end are bytes of their own
enough : (s w a l m b e n : ℕ) → Parts s w a l m b e n → (3 * s ≤ n + 2) × (2 * w ≤ n + 1) × (2 * a ≤ n) × (l ≤ n) × (m ≤ n) × (b ≤ n)
enough s zero a l m b e n p =
    let z = p.none refl in
    (omega (arith, p.full), omega arith, omega (arith, z.1), omega (arith, z.0), omega (arith, z.2), omega (arith, z.3))
enough s (suc w) a l m b e n p =
    let h = p.held in
    let k = p.labelled in
    let j = p.named in
    (omega (arith, h, k, p.parted, p.full), omega (arith, h, k), omega (arith, h, k, j), omega (arith, h), omega (arith, h), omega (arith, h))

none_held : (vs : List Word) → length vs ≡ 0 → (length (flatten (labels_of vs)) ≡ 0) × (length (all_attributes vs) ≡ 0) × (length (flatten (names_of (all_attributes vs))) ≡ 0) × (length (flatten (scales_of (all_attributes vs))) ≡ 0)
unfolding flatten
none_held [] e = (refl, refl, refl, refl)
none_held (v ∷ vs) e = absurd (suc-ne-zero (length vs) e)

pub fits_in_text : FitsInText
fits_in_text ls h =
    let ss : List (List Word) = sequences ls in
    let vs : List Word = all_words ss in
    let xs : List TextAttribute = all_attributes vs in
    let sound : EachSoundWord vs = text_words_sound ls h in
    let span = words_span ls h in
    let hold = words_hold vs in
    let parts : Parts (length ss) (length vs) (length xs) (length (flatten (labels_of vs))) (length (flatten (names_of xs))) (length (flatten (scales_of xs))) (empties ls) (length (text_of ls)) = record {
      held = omega (arith, span, hold);
      parted = sequences_few [] ls;
      full = sequences_hold ss (none_empty ls);
      labelled = rw (length-map vs (λ (v : Word). v.label)) at (named_long (labels_of vs) (labels_named vs sound));
      named = rw (length-map xs (λ (x : TextAttribute). x.name)) at (named_long (names_of xs) (attributes_named xs (all_attributes_lem vs sound)));
      none = none_held vs;
    } in
    let r = enough (length ss) (length vs) (length xs) (length (flatten (labels_of vs))) (length (flatten (names_of xs))) (length (flatten (scales_of xs))) (empties ls) (length (text_of ls)) parts in
    record {
      instances = r.0;
      words = r.1;
      attributes = r.2;
      label_bytes_of = le_trans (distinct_all (labels_of vs)) r.3;
      name_bytes_of = le_trans (distinct_all (names_of xs)) r.4;
      scale_bytes_of = r.5;
    }

-- ---- what is written of it
pub few_written : FewWritten
few_written ls h =
    let ss : List (List Word) = sequences ls in
    let span = words_span ls h in
    let few = sequences_few [] ls in
    rw (words_back ss, length_is_sum ss, lengths_apart ss) (omega (arith, span, few))

-- ---- on the way there: what a pass has counted so far is within the text too
pub record OnTheWay (t : Tally) (n : ℕ) : Type 0 where
  pub sequences : t.sequences ≤ n
  pub words : t.words ≤ n
  pub attributes : t.attributes ≤ n
  pub scale_bytes_of : t.scale_bytes_of ≤ n
  pub label_bytes_of : length (flatten t.labels) ≤ n
  pub name_bytes_of : length (flatten t.names) ≤ n

front_bytes : (front more all : List Bytes) → all ≡ front ++ more → length (flatten front) ≤ length (flatten all)
front_bytes front more all e =
    rw (e, flatten_append front more, length-append (flatten front) (flatten more)) (omega arith)

pub on_the_way : (ls : List Line) → SoundText ls → (t : Tally) (ps : List Piece) → after_each tallied t ps ≡ tally_of (pieces_of ls) → OnTheWay t (length (text_of ls))
on_the_way ls h t ps e =
    let f = fits_in_text ls h in
    let m = tally_means ls in
    let g : Grown t (tally_of (pieces_of ls)) = rw e at (grown t ps) in
    let labels = front_bytes t.labels g.labels.0 (distinct (labels_of (all_words (sequences ls)))) (sym m.labels ∙ g.labels.1) in
    let names = front_bytes t.names g.names.0 (distinct (names_of (all_attributes (all_words (sequences ls))))) (sym m.names ∙ g.names.1) in
    record {
      sequences = omega (arith, g.sequences, m.sequences, f.instances);
      words = omega (arith, g.words, m.words, f.words);
      attributes = omega (arith, g.attributes, m.attributes, f.attributes);
      scale_bytes_of = omega (arith, g.scale_bytes_of, m.scale_bytes_of, f.scale_bytes_of);
      label_bytes_of = le_trans labels f.label_bytes_of;
      name_bytes_of = le_trans names f.name_bytes_of;
    }
