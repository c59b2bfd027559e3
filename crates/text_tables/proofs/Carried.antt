-- What the writer can carry it writes as a well-formed text, and it can carry the tables of every well-formed text; so these read back. Assumes nothing.
use mathlib.Core.Path.{◌≡◌, refl, sym, ap, subst, ◌∙◌}
use mathlib.Core.Bool.{Bool, true, false, cond}
use mathlib.Core.List.{List, [], ◌∷◌, ◌++◌, map, flatten}
use Prim.Native.Nat.{ℕ, zero, suc, ◌+◌, ◌-◌, ◌≤◌, ◌<◌}
use native.Mathlib.Nat.{not-suc-le-zero, le_of_suc-le-suc}
use native.Mathlib.Omega.{arith}
use lib.Dec.{ltb}
use lib.ListN.{length, get_or, length-map}
use Rattle.lines.specs.Passes.{start, size}
use Rattle.layout.specs.Layout.{Bytes, TextAttribute, Word, Line, empty, word, Name, KeptText, SoundAttributes, SoundTextLine, EachSound, SoundText, sequences, line_words}
use Rattle.layout.proofs.Read.{one_one}
use Rattle.layout.proofs.Runs.{none_empty, every_word}
use Rattle.text_tables.specs.Distinct.{id_in, learnt, learnt_all, distinct}
use Rattle.text_tables.specs.Tables.{flat, all_words, all_attributes, labels_of, names_of, scales_of, Tables, tables}
use Rattle.text_tables.specs.Written.{Unwritten, unwritten, string_at, places_from, attribute_from, word_from, sequence_from, sequences_in, written_lines}
use Rattle.text_tables.specs.RoundTrip.{Amounts, Writable, WritesWellFormed, EachSoundWord, amounts_of, ReadIsWritable, TextReadsBack}
use Rattle.text_tables.proofs.Parts.{list_within, string_is}
use Rattle.text_tables.proofs.Written.{sound_of_lines}
use Rattle.text_tables.proofs.RoundTrip.{reads_back, id_below, word_counts, line_counts}

-- ---- what can be carried is written as a well-formed text
module _ (t : Unwritten) (n : Amounts) (h : Writable t n) where
  attributes_sound : (at m : ℕ) → at + m ≤ n.attributes → SoundAttributes (map (attribute_from t) (places_from at m))
  unfolding places_from
  attributes_sound at zero l = tt
  attributes_sound at (suc m) l =
      let here : at < n.attributes = omega (arith, l) in
      (h.names (get_or t.ids at 0) (h.ids at here), h.scales at here, attributes_sound (at + 1) m (omega (arith, l)))

  word_sound : (w : ℕ) → w < n.words → SoundTextLine (word (word_from t w))
  word_sound w l = (
    h.labels (get_or t.references w 0) (h.references w l),
    attributes_sound (start t.word_starts_of w) (size t.word_starts_of w) (list_within t.word_starts_of n.words n.attributes w h.word_starts_of l),
  )

  words_sound : (at m : ℕ) (ws : List Word) → at + m ≤ n.words → EachSoundWord ws → EachSoundWord (map (word_from t) (places_from at m) ++ ws)
  unfolding places_from
  words_sound at zero ws l k = k
  words_sound at (suc m) ws l k = (word_sound at (omega (arith, l)), words_sound (at + 1) m ws (omega (arith, l)) k)

  sequences_sound : (at m : ℕ) → at + m ≤ t.instances → EachSoundWord (flatten (map (sequence_from t) (places_from at m)))
  unfolding places_from flatten
  sequences_sound at zero l = tt
  sequences_sound at (suc m) l =
      words_sound (start t.line_starts at) (size t.line_starts at) (flatten (map (sequence_from t) (places_from (at + 1) m)))
      (list_within t.line_starts t.instances n.words at h.line_starts (omega (arith, l)))
      (sequences_sound (at + 1) m (omega (arith, l)))

pub written_sound : (t : Unwritten) (n : Amounts) → Writable t n → SoundText (written_lines t)
written_sound t n h = let all : 0 + t.instances ≤ t.instances = omega arith in sound_of_lines (sequences_in t) (sequences_sound t n h 0 t.instances all)

pub writes_well_formed : WritesWellFormed
writes_well_formed t n h = record { lines = written_lines t; sound = written_sound t n h; made = refl }

-- ---- the tables of a well-formed text can be carried
abbrev pub EachName : List Bytes → Type 0
EachName [] = Unit {0}
EachName (n ∷ ns) = Name n × EachName ns

abbrev EachKept : List Bytes → Type 0
EachKept [] = Unit {0}
EachKept (s ∷ ss) = KeptText s × EachKept ss

name_at : (ns : List Bytes) (i : ℕ) → EachName ns → i < length ns → Name (get_or ns i [])
name_at [] i h l = absurd (not-suc-le-zero l)
name_at (n ∷ ns) zero h l = h.0
name_at (n ∷ ns) (suc i) h l = name_at ns i h.1 (le_of_suc-le-suc l)

kept_at : (ss : List Bytes) (i : ℕ) → EachKept ss → i < length ss → KeptText (get_or ss i [])
kept_at [] i h l = absurd (not-suc-le-zero l)
kept_at (s ∷ ss) zero h l = h.0
kept_at (s ∷ ss) (suc i) h l = kept_at ss i h.1 (le_of_suc-le-suc l)

name_behind : (known : List Bytes) (n : Bytes) → EachName known → Name n → EachName (known ++ (n ∷ []))
name_behind [] n h k = (k, tt)
name_behind (m ∷ known) n h k = (h.0, name_behind known n h.1 k)

names_learnt : (known ns : List Bytes) → EachName known → EachName ns → EachName (learnt_all known ns)
unfolding learnt_all learnt
names_learnt known [] h k = h
names_learnt known (n ∷ ns) h k = names_learnt (learnt known n) ns (go (ltb (id_in known n) (length known))) k.1
  where
    go : (b : Bool) → EachName (cond b known (known ++ (n ∷ [])))
    go true = h
    go false = name_behind known n h k.0

string_named : (ns : List Bytes) → EachName ns → (i : ℕ) → i < length (distinct ns) → Name (string_at (flat (distinct ns)) i)
string_named ns h i l = subst Name (sym (string_is (distinct ns) i l)) (name_at (distinct ns) i (names_learnt [] ns tt h) l)

-- names and kept texts of sound words
pub labels_named : (ws : List Word) → EachSoundWord ws → EachName (labels_of ws)
labels_named [] h = tt
labels_named (w ∷ ws) h = (h.0.0, labels_named ws h.1)

attributes_append : (xs ys : List TextAttribute) → SoundAttributes xs → SoundAttributes ys → SoundAttributes (xs ++ ys)
attributes_append [] ys h k = k
attributes_append (x ∷ xs) ys h k = (h.0, h.1, attributes_append xs ys h.2 k)

pub all_attributes_lem : (ws : List Word) → EachSoundWord ws → SoundAttributes (all_attributes ws)
unfolding flatten
all_attributes_lem [] h = tt
all_attributes_lem (w ∷ ws) h = attributes_append w.attributes (all_attributes ws) h.0.1 (all_attributes_lem ws h.1)

pub attributes_named : (xs : List TextAttribute) → SoundAttributes xs → EachName (names_of xs)
attributes_named [] h = tt
attributes_named (x ∷ xs) h = (h.0, attributes_named xs h.2)

attributes_kept : (xs : List TextAttribute) → SoundAttributes xs → EachKept (scales_of xs)
attributes_kept [] h = tt
attributes_kept (x ∷ xs) h = (h.1, attributes_kept xs h.2)

pub sound_tables : (ss : List (List Word)) → EachSoundWord (all_words ss) → Writable (unwritten (tables ss)) (amounts_of ss)
unfolding tables
sound_tables ss h =
    let vs : List Word = all_words ss in
    let xs : List TextAttribute = all_attributes vs in
    let sound : SoundAttributes xs = all_attributes_lem vs h in
    record {
      line_starts = line_counts ss;
      word_starts_of = word_counts ss;
      ids = λ a l. id_below (names_of xs) a (rw (length-map xs (λ (x : TextAttribute). x.name)) l);
      references = λ w l. id_below (labels_of vs) w (rw (length-map vs (λ (v : Word). v.label)) l);
      labels = string_named (labels_of vs) (labels_named vs h);
      names = string_named (names_of xs) (attributes_named xs sound);
      scales = λ a l.
          let here : a < length (scales_of xs) = rw (length-map xs (λ (x : TextAttribute). x.scale)) l in
          subst KeptText (sym (string_is (scales_of xs) a here)) (kept_at (scales_of xs) a (attributes_kept xs sound) here);
    }

line_words_sound : (ls : List Line) → EachSound ls → EachSoundWord (line_words ls)
line_words_sound [] h = tt
line_words_sound (empty ∷ ls) h = line_words_sound ls h.1
line_words_sound (word w ∷ ls) h = (h.0, line_words_sound ls h.1)

pub text_words_sound : (ls : List Line) → SoundText ls → EachSoundWord (all_words (sequences ls))
text_words_sound ls h = subst EachSoundWord (sym (every_word ls)) (line_words_sound ls (each ls h))
  where
    each : (ls : List Line) → SoundText ls → EachSound ls
    each [] h = absurd h
    each (l ∷ ls) h = h

pub read_is_writable : ReadIsWritable
read_is_writable ls h = sound_tables (sequences ls) (text_words_sound ls h)

-- ---- the round trip of texts: lines that make the written text are those that were written
pub text_reads_back : TextReadsBack
text_reads_back text h k =
    let read : Tables = tables (sequences h.lines) in
    let own : SoundText (written_lines (unwritten read)) = written_sound (unwritten read) (amounts_of (sequences h.lines)) (read_is_writable h.lines h.sound) in
    let lines : k.lines ≡ written_lines (unwritten read) = one_one k.lines (written_lines (unwritten read)) k.sound own k.made in
    ap (λ (ls : List Line). tables (sequences ls)) lines ∙ reads_back (sequences h.lines) (none_empty h.lines)
