-- Lines of sequences: they have these sequences, their text is the sum of the sequences' texts, and they are sound where each word is. Assumes nothing.
use mathlib.Core.Path.{◌≡◌, refl, sym, ap, ◌∙◌}
use mathlib.Core.List.{List, [], ◌∷◌, ◌++◌, map, flatten, append_assoc, append-nil}
use Prim.Native.Nat.{ℕ, ◌+◌}
use native.Mathlib.Omega.{arith}
use lib.ListN.{length, length-append}
use Rattle.layout.specs.Layout.{Bytes, TextAttribute, Word, Line, empty, word, escaped, scale_text, attributes_text, line_text, more_lines, text_of, EachSound, SoundText, ended, sequences_from, sequences, NoneEmpty}
use Rattle.text_tables.specs.Written.{sequence_lines, all_lines, attribute_text, word_text, sequence_text, SumOfSequences, in_all, attribute_length, word_length, sequence_length, LengthIsSum}
use Rattle.text_tables.specs.RoundTrip.{EachSoundWord}
use Rattle.text_tables.proofs.Lists.{map_append, flatten_append, length_flatten, all_append}

-- ---- their sequences
words_in_lem : (ws vs : List Word) (ls : List Line) → sequences_from ws (map word vs ++ ls) ≡ sequences_from (ws ++ vs) ls
unfolding sequences_from
words_in_lem ws [] ls = ap (λ (us : List Word). sequences_from us ls) (sym (append-nil ws))
words_in_lem ws (v ∷ vs) ls = words_in_lem (ws ++ (v ∷ [])) vs ls ∙ ap (λ (us : List Word). sequences_from us ls) (append_assoc ws (v ∷ []) vs)

one_in : (s : List Word) (ls : List Line) → sequences (sequence_lines s ++ ls) ≡ ended s ++ sequences ls
unfolding sequences_from
one_in s ls = ap sequences (append_assoc (map word s) (empty ∷ []) ls) ∙ words_in_lem [] s (empty ∷ ls)

all_in : (ss : List (List Word)) → NoneEmpty ss → sequences (flatten (map sequence_lines ss) ++ (empty ∷ [])) ≡ ss
unfolding flatten sequences_from
all_in [] h = refl
all_in ([] ∷ ss) h = absurd h
all_in ((w ∷ ws) ∷ ss) h =
    let rest : List Line = flatten (map sequence_lines ss) in
    ap sequences (append_assoc (sequence_lines (w ∷ ws)) rest (empty ∷ []))
    ∙ one_in (w ∷ ws) (rest ++ (empty ∷ []))
    ∙ ap (λ (rs : List (List Word)). (w ∷ ws) ∷ rs) (all_in ss h)

pub sequences_of_lines : (ss : List (List Word)) → NoneEmpty ss → sequences (all_lines ss) ≡ ss
unfolding all_lines
sequences_of_lines ss h = all_in ss h

-- ---- their text
abbrev pub line_ended : Line → Bytes
line_ended l = line_text l ++ (10 ∷ [])

more_ended : (ls : List Line) → more_lines (ls ++ (empty ∷ [])) ≡ 10 ∷ flatten (map line_ended ls)
unfolding more_lines line_text flatten
more_ended [] = refl
more_ended (l ∷ ls) =
    ap (λ (t : Bytes). 10 ∷ (line_text l ++ t)) (more_ended ls)
    ∙ ap (λ (t : Bytes). 10 ∷ t) (sym (append_assoc (line_text l) (10 ∷ []) (flatten (map line_ended ls))))

text_ended : (ls : List Line) → text_of (ls ++ (empty ∷ [])) ≡ flatten (map line_ended ls)
unfolding text_of more_lines line_text flatten
text_ended [] = refl
text_ended (l ∷ ls) =
    ap (λ (t : Bytes). line_text l ++ t) (more_ended ls) ∙ sym (append_assoc (line_text l) (10 ∷ []) (flatten (map line_ended ls)))

pub attributes_text_lem : (xs : List TextAttribute) → attributes_text xs ≡ flatten (map attribute_text xs)
unfolding attributes_text flatten
attributes_text_lem [] = refl
attributes_text_lem (x ∷ xs) = ap (λ (t : Bytes). attribute_text x ++ t) (attributes_text_lem xs)

pub word_ended : (w : Word) → line_ended (word w) ≡ word_text w
unfolding line_text
word_ended w = ap (λ (t : Bytes). (escaped w.label ++ t) ++ (10 ∷ [])) (attributes_text_lem w.attributes)

words_ended : (ws : List Word) → map line_ended (map word ws) ≡ map word_text ws
words_ended [] = refl
words_ended (w ∷ ws) = λ i. word_ended w i ∷ words_ended ws i

sequence_ended : (ws : List Word) → flatten (map line_ended (sequence_lines ws)) ≡ sequence_text ws
unfolding flatten line_text
sequence_ended ws =
    ap (λ (ts : List Bytes). flatten ts) (map_append line_ended (map word ws) (empty ∷ []))
    ∙ flatten_append (map line_ended (map word ws)) ((10 ∷ []) ∷ [])
    ∙ ap (λ (ts : List Bytes). flatten ts ++ (10 ∷ [])) (words_ended ws)

sequences_ended : (ss : List (List Word)) → flatten (map line_ended (flatten (map sequence_lines ss))) ≡ flatten (map sequence_text ss)
unfolding flatten
sequences_ended [] = refl
sequences_ended (s ∷ ss) =
    ap (λ (ts : List Bytes). flatten ts) (map_append line_ended (sequence_lines s) (flatten (map sequence_lines ss)))
    ∙ flatten_append (map line_ended (sequence_lines s)) (map line_ended (flatten (map sequence_lines ss)))
    ∙ ap (λ (t : Bytes). t ++ flatten (map line_ended (flatten (map sequence_lines ss)))) (sequence_ended s)
    ∙ ap (λ (t : Bytes). sequence_text s ++ t) (sequences_ended ss)

pub sum_of_sequences : SumOfSequences
unfolding all_lines
sum_of_sequences ss = text_ended (flatten (map sequence_lines ss)) ∙ sequences_ended ss

-- ---- its length
attributes_length : (xs : List TextAttribute) → length (flatten (map attribute_text xs)) ≡ in_all (map attribute_length xs)
unfolding flatten in_all
attributes_length [] = refl
attributes_length (x ∷ xs) =
    rw (length-append (escaped x.name ++ scale_text x.scale) (flatten (map attribute_text xs)), length-append (escaped x.name) (scale_text x.scale), attributes_length xs)
    (omega arith)

pub length_word : (w : Word) → length (word_text w) ≡ word_length w
length_word w =
    let rest : Bytes = flatten (map attribute_text w.attributes) in
    length-append (escaped w.label ++ rest) (10 ∷ [])
    ∙ ap (λ (k : ℕ). k + 1) (length-append (escaped w.label) rest ∙ ap (λ (k : ℕ). length (escaped w.label) + k) (attributes_length w.attributes))

length_words : (ws : List Word) → map length (map word_text ws) ≡ map word_length ws
length_words [] = refl
length_words (w ∷ ws) = λ i. length_word w i ∷ length_words ws i

pub length_sequence : (ws : List Word) → length (sequence_text ws) ≡ sequence_length ws
length_sequence ws =
    length-append (flatten (map word_text ws)) (10 ∷ []) ∙ ap (λ (k : ℕ). k + 1) (length_flatten (map word_text ws) ∙ ap in_all (length_words ws))

length_sequences : (ss : List (List Word)) → map length (map sequence_text ss) ≡ map sequence_length ss
length_sequences [] = refl
length_sequences (s ∷ ss) = λ i. length_sequence s i ∷ length_sequences ss i

pub length_is_sum : LengthIsSum
length_is_sum ss = ap length (sum_of_sequences ss) ∙ length_flatten (map sequence_text ss) ∙ ap in_all (length_sequences ss)

-- words one by one, and one more for each sequence
pub lengths_apart : (ss : List (List Word)) → in_all (map sequence_length ss) ≡ in_all (map word_length (flatten ss)) + length ss
unfolding in_all flatten
lengths_apart [] = refl
lengths_apart (s ∷ ss) =
    rw (lengths_apart ss, map_append word_length s (flatten ss), all_append (map word_length s) (map word_length (flatten ss))) (omega arith)

-- ---- sound where each word is
sound_append : (ls ms : List Line) → EachSound ls → EachSound ms → EachSound (ls ++ ms)
sound_append [] ms h k = k
sound_append (l ∷ ls) ms h k = (h.0, sound_append ls ms h.1 k)

sound_words : (ws : List Word) → EachSoundWord ws → EachSound (map word ws)
sound_words [] h = tt
sound_words (w ∷ ws) h = (h.0, sound_words ws h.1)

sound_part : (ws : List Word) (ss : List (List Word)) → EachSoundWord (ws ++ flatten ss) → EachSoundWord ws × EachSoundWord (flatten ss)
sound_part [] ss h = (tt, h)
sound_part (w ∷ ws) ss h = let r = sound_part ws ss h.1 in ((h.0, r.0), r.1)

sound_lines : (ss : List (List Word)) → EachSoundWord (flatten ss) → EachSound (flatten (map sequence_lines ss))
unfolding flatten
sound_lines [] h = tt
sound_lines (s ∷ ss) h =
    let r = sound_part s ss h in
    sound_append (sequence_lines s) (flatten (map sequence_lines ss)) (sound_append (map word s) (empty ∷ []) (sound_words s r.0) (tt, tt)) (sound_lines ss r.1)

some_line : (ls : List Line) → EachSound (ls ++ (empty ∷ [])) → SoundText (ls ++ (empty ∷ []))
some_line [] h = h
some_line (l ∷ ls) h = h

pub sound_of_lines : (ss : List (List Word)) → EachSoundWord (flatten ss) → SoundText (all_lines ss)
unfolding all_lines
sound_of_lines ss h =
    let ls : List Line = flatten (map sequence_lines ss) in
    some_line ls (sound_append ls (empty ∷ []) (sound_lines ss h) (tt, tt))
