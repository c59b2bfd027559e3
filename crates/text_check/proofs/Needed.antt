-- The rows in a survey's terms are those of the tables. Assumes nothing.
use Rattle.std.specs.Prelude.{Ok}
use mathlib.Core.Path.{◌≡◌, refl, sym, ap, ◌∙◌}
use mathlib.Core.Bool.{Bool, true, false, ◌||◌}
use mathlib.Core.List.{List, [], ◌∷◌, map, flatten}
use Prim.Native.Nat.{ℕ, suc, ◌+◌, ◌≤◌, ◌<◌}
use native.Mathlib.Omega.{arith}
use lib.Dec.{ltb}
use lib.ListN.{length, take, replicate, length-map, length-replicate}
use lib.Seq.{take_all, length-take-le}
use borrow.Author.Tests.{ltb-true, ltb-false, lt-ltb, le-ltb}
use Rattle.binary64.specs.Numbers.{whole}
use Rattle.refusals.specs.Refusals.{Checked, refuse, or_next_of}
use Rattle.refusals.specs.Tables.{outside}
use Rattle.refusal_rows.specs.Limits.{room, any_broken, two}
use Rattle.refusal_rows.specs.Tests.{lengths_checked}
use Rattle.refusal_rows.proofs.Means.{limits_mean}
use Rattle.layout.specs.Layout.{Bytes, TextAttribute, Word}
use Rattle.scales.specs.Value.{value_of}
use Rattle.text_tables.specs.Distinct.{id_in, distinct}
use Rattle.text_tables.specs.Tables.{starts_from, tables, all_words, all_attributes, labels_of, names_of, scales_of}
use Rattle.survey.specs.declared.NameSums.{NameSums}
use Rattle.survey.specs.declared.Survey.{Survey}
use Rattle.survey.proofs.Named.{front_all}
use Rattle.text_check.specs.declared.Lengths.{Lengths}
use Rattle.text_check.specs.Rows.{too_long_of, text_counts, text_rooms, text_sized, text_checked}
use Rattle.text_check.specs.Told.{CountsFront, TellsSequences, survey_counts, survey_rooms, long_refused}
use Rattle.text_check.proofs.Long.{long_same}

-- ---- 2 of the counts: whether there are too many is seen on the front

front_above : {A : Type 0} (n m : ℕ) (xs : List A) → m ≡ n + 1 → ltb n (length (take m xs)) ≡ ltb n (length xs)
front_above n m xs e = go (ltb n (length xs)) refl
  where
    go : (x : Bool) → ltb n (length xs) ≡ x → ltb n (length (take m xs)) ≡ ltb n (length xs)
    go true f =
        let h = ltb-true n (length xs) f in
        let l = length-take-le m xs (omega (arith, h, e)) in
        lt-ltb n (length (take m xs)) (omega (arith, l, e)) ∙ sym f
    go false f = let h = ltb-false n (length xs) f in ap (λ (ys : List _). ltb n (length ys)) (take_all m xs (omega (arith, h, e)))

abbrev any_of : Bool → Bool → ℕ → ℕ → ℕ → Bool
any_of labels names instances words attributes = (((labels || names) || outside 1 16384 instances) || ltb 1048576 words) || ltb 4194304 attributes

pub counts_same : (ss : List (List Word)) (s : Survey) → TellsSequences ss s → any_broken (survey_counts s) ≡ any_broken (text_counts ss)
counts_same ss s g =
    let labels : ltb 32 s.labels.count ≡ ltb 32 (length (distinct (labels_of (all_words ss)))) = ap (ltb 32) g.labels.count ∙ front_above 32 33 (distinct (labels_of (all_words ss))) refl in
    let names : ltb 65535 s.names.count ≡ ltb 65535 (length (distinct (names_of (all_attributes (all_words ss))))) = ap (ltb 65535) g.names.count ∙ front_above 65535 65536 (distinct (names_of (all_attributes (all_words ss)))) refl in
    λ i. any_of (labels i) (names i) (g.sequences i) (g.words i) (g.attributes i)

-- ---- 2 of the rooms: the tables' lengths

starts_length : (at : ℕ) (ns : List ℕ) → length (starts_from at ns) ≡ length ns + 1
unfolding starts_from
starts_length at [] = refl
starts_length at (n ∷ ns) = ap suc (starts_length (at + n) ns) ∙ (omega arith)

-- where all are counted
all_counted : (most : ℕ) (names : List Bytes) (known : NameSums) → CountsFront most names known → known.count < most → (known.count ≡ length names) × (known.bytes ≡ length (flatten names))
all_counted most names known c h =
    let e = c.count in
    let f : take most names ≡ names = front_all most names (omega (arith, e, h)) in
    (c.count ∙ ap length f, c.bytes ∙ ap (λ (ns : List Bytes). length (flatten ns)) f)

one_more : {A : Type 0} (f : A → ℕ) (n : ℕ) (xs : List A) → n ≡ length xs → n + 1 ≡ length (starts_from 0 (map f xs))
one_more f n xs e = ap (λ (k : ℕ). k + 1) (e ∙ sym (length-map xs f)) ∙ sym (starts_length 0 (map f xs))

pub rooms_same : (ss : List (List Word)) (s : Survey) (have : Lengths) → TellsSequences ss s → any_broken (survey_counts s) ≡ false → survey_rooms s have ≡ text_rooms (tables ss) have
unfolding tables
rooms_same ss s have g fine =
    let words : List Word = all_words ss in
    let attributes : List TextAttribute = all_attributes words in
    let w = (limits_mean (survey_counts s)).0 fine in
    let few = w.0 in
    let few_names = w.1.0 in
    let labels = all_counted 33 (distinct (labels_of words)) s.labels g.labels (omega (arith, few)) in
    let names = all_counted 65536 (distinct (names_of attributes)) s.names g.names (omega (arith, few_names)) in
    let lines : s.figures.sequences + 1 ≡ length (starts_from 0 (map (λ (x : List Word). length x) ss)) = one_more (λ (x : List Word). length x) s.figures.sequences ss g.sequences in
    let begins : s.figures.words + 1 ≡ length (starts_from 0 (map (λ (x : Word). length x.attributes) words)) = one_more (λ (x : Word). length x.attributes) s.figures.words words g.words in
    let ids : s.figures.attributes ≡ length (map (id_in (distinct (names_of attributes))) (names_of attributes)) =
    g.attributes ∙ sym (length-map attributes (λ (x : TextAttribute). x.name)) ∙ sym (length-map (names_of attributes) (id_in (distinct (names_of attributes)))) in
    let values : s.figures.attributes ≡ length (map value_of (scales_of attributes)) =
    g.attributes ∙ sym (length-map attributes (λ (x : TextAttribute). x.scale)) ∙ sym (length-map (scales_of attributes) value_of) in
    let references : s.figures.words ≡ length (map (id_in (distinct (labels_of words))) (labels_of words)) =
    g.words ∙ sym (length-map words (λ (x : Word). x.label)) ∙ sym (length-map (labels_of words) (id_in (distinct (labels_of words)))) in
    let weights : s.figures.sequences ≡ length (replicate (length ss) (whole 1)) = g.sequences ∙ sym (length-replicate (length ss) (whole 1)) in
    let label_starts_lem = one_more length s.labels.count (distinct (labels_of words)) labels.0 in
    let name_starts_lem = one_more length s.names.count (distinct (names_of attributes)) names.0 in
    let scale_starts_lem = one_more length s.figures.attributes (scales_of attributes) (g.attributes ∙ sym (length-map attributes (λ (x : TextAttribute). x.scale))) in
    λ i.
    room have.lines (lines i)
    ∷ room have.begins (begins i)
    ∷ room have.ids (ids i)
    ∷ room have.values (values i)
    ∷ room have.references (references i)
    ∷ room have.weights (weights i)
    ∷ room have.label_starts (label_starts_lem i)
    ∷ room have.label_bytes (labels.1 i)
    ∷ room have.name_starts (name_starts_lem i)
    ∷ room have.name_bytes (names.1 i)
    ∷ room have.scale_starts (scale_starts_lem i)
    ∷ room have.scale_bytes (g.scales i)
    ∷ []

-- ---- in order

short_text : (bytes : ℕ) → bytes ≤ 4294967295 → too_long_of bytes ≡ Ok tt
unfolding refuse
short_text bytes h = rw (le-ltb 4294967295 bytes h) refl

pub sized_same : (bytes : ℕ) (ss : List (List Word)) (s : Survey) → bytes ≤ 4294967295 → TellsSequences ss s
    → or_next_of (refuse 2 0 (any_broken (survey_counts s))) (long_refused s.figures.long) ≡ text_sized bytes ss
unfolding text_sized
sized_same bytes ss s h g = rw (counts_same ss s g, long_same ss s g, short_text bytes h) done
  where
    done : or_next_of (refuse 2 0 (any_broken (text_counts ss))) (lengths_checked (tables ss).corpus.starts (length ss)) ≡ or_next_of (or_next_of (or_next_of (Ok tt) (Ok tt)) (two (text_counts ss))) (lengths_checked (tables ss).corpus.starts (length ss))
    done = unfold or_next_of in refl

-- once the counts are refused the rooms do not matter
second_same : (counts : Bool) (these those : Bool) → (counts ≡ false → these ≡ those) → or_next_of (refuse 2 0 counts) (refuse 2 0 these) ≡ or_next_of (or_next_of (or_next_of (Ok tt) (Ok tt)) (refuse 2 0 counts)) (refuse 2 0 those)
unfolding or_next_of refuse
second_same true these those e = refl
second_same false these those e = ap (refuse 2 0) (e refl)

pub text_same : (bytes : ℕ) (ss : List (List Word)) (s : Survey) (have : Lengths) → bytes ≤ 4294967295 → TellsSequences ss s
    → or_next_of (or_next_of (refuse 2 0 (any_broken (survey_counts s))) (refuse 2 0 (any_broken (survey_rooms s have)))) (long_refused s.figures.long) ≡ text_checked bytes ss have
unfolding text_checked
text_same bytes ss s have h g =
    rw (short_text bytes h, sym (counts_same ss s g), long_same ss s g)
    (ap (λ (c : Checked). or_next_of c (lengths_checked (tables ss).corpus.starts (length ss)))
    (second_same (any_broken (survey_counts s)) (any_broken (survey_rooms s have)) (any_broken (text_rooms (tables ss) have)) (λ fine. ap any_broken (rooms_same ss s have g fine))))
