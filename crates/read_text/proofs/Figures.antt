-- The sizes of sequences: what the tables need by them, and that a survey whose counts are within their bounds has them. Assumes nothing.
use Rattle.std.specs.Prelude.{Ok}
use mathlib.Core.Path.{◌≡◌, refl, sym, ap, subst, ◌∙◌}
use mathlib.Core.List.{List, [], ◌∷◌, map, flatten}
use Prim.Native.Nat.{ℕ, suc, ◌+◌, ◌≤◌}
use native.Mathlib.Omega.{arith}
use lib.ListN.{length, take, replicate, length-map, length-replicate}
use lib.Seq.{take_all}
use Rattle.binary64.specs.Numbers.{whole}
use Rattle.refusal_rows.specs.Limits.{room, AllWithin}
use Rattle.layout.specs.Layout.{Bytes, TextAttribute, Word, WellFormed, sequences}
use Rattle.scales.specs.Value.{value_of}
use Rattle.text_tables.specs.Distinct.{id_in, distinct}
use Rattle.text_tables.specs.Tables.{starts_from, tables, all_words, all_attributes, labels_of, names_of, scales_of}
use Rattle.text_tables.specs.InText.{InText}
use Rattle.text_tables.proofs.InText.{fits_in_text}
use Rattle.survey.specs.declared.NameSums.{NameSums}
use Rattle.survey.specs.declared.Survey.{Survey}
use Rattle.text_check.specs.declared.Lengths.{Lengths}
use Rattle.text_check.specs.Rows.{text_counts, text_rooms, text_sized}
use Rattle.text_check.proofs.Meant.{text_checks_mean}
use Rattle.text_check.specs.Told.{CountsFront, TellsSequences, TextSurveyed}
use Rattle.read_text.specs.Promise.{sizes_for}
use Rattle.read_text.specs.Sizes.{sizes_rooms}
use Rattle.read_text.specs.Steps.{sizes_in_of, SmallSurvey}

-- ---- how long the tables are

starts_length : (at : ℕ) (ns : List ℕ) → length ns + 1 ≡ length (starts_from at ns)
unfolding starts_from
starts_length at [] = refl
starts_length at (n ∷ ns) = (omega arith) ∙ ap suc (starts_length (at + n) ns)

one_more : {A : Type 0} (f : A → ℕ) (xs : List A) → length xs + 1 ≡ length (starts_from 0 (map f xs))
one_more f xs = ap (λ (k : ℕ). k + 1) (sym (length-map xs f)) ∙ starts_length 0 (map f xs)

pub rooms_are : (ss : List (List Word)) (have : Lengths) → sizes_rooms (sizes_for ss) have ≡ text_rooms (tables ss) have
unfolding tables
rooms_are ss have =
    let words : List Word = all_words ss in
    let attributes : List TextAttribute = all_attributes words in
    let lines = one_more (λ (x : List Word). length x) ss in
    let begins = one_more (λ (x : Word). length x.attributes) words in
    let ids : length attributes ≡ length (map (id_in (distinct (names_of attributes))) (names_of attributes)) =
    sym (length-map attributes (λ (x : TextAttribute). x.name)) ∙ sym (length-map (names_of attributes) (id_in (distinct (names_of attributes)))) in
    let values : length attributes ≡ length (map value_of (scales_of attributes)) = sym (length-map attributes (λ (x : TextAttribute). x.scale)) ∙ sym (length-map (scales_of attributes) value_of) in
    let references : length words ≡ length (map (id_in (distinct (labels_of words))) (labels_of words)) =
    sym (length-map words (λ (x : Word). x.label)) ∙ sym (length-map (labels_of words) (id_in (distinct (labels_of words)))) in
    let weights : length ss ≡ length (replicate (length ss) (whole 1)) = sym (length-replicate (length ss) (whole 1)) in
    let label_starts_lem = one_more length (distinct (labels_of words)) in
    let name_starts_lem = one_more length (distinct (names_of attributes)) in
    let scale_starts_lem = ap (λ (k : ℕ). k + 1) (sym (length-map attributes (λ (x : TextAttribute). x.scale))) ∙ one_more length (scales_of attributes) in
    λ i.
    room have.lines (lines i)
    ∷ room have.begins (begins i)
    ∷ room have.ids (ids i)
    ∷ room have.values (values i)
    ∷ room have.references (references i)
    ∷ room have.weights (weights i)
    ∷ room have.label_starts (label_starts_lem i)
    ∷ room have.label_bytes (length (flatten (distinct (labels_of words))))
    ∷ room have.name_starts (name_starts_lem i)
    ∷ room have.name_bytes (length (flatten (distinct (names_of attributes))))
    ∷ room have.scale_starts (scale_starts_lem i)
    ∷ room have.scale_bytes (length (flatten (scales_of attributes)))
    ∷ []

-- ---- a survey has counted all names

pub record CountsAll (names : List Bytes) (known : NameSums) : Type 0 where
  pub count : known.count ≡ length names
  pub bytes : known.bytes ≡ length (flatten names)

counts_all : {most : ℕ} {names : List Bytes} {known : NameSums} → length names ≤ most → CountsFront most names known → CountsAll names known
counts_all {most} {names} {known} few c =
    let f : take most names ≡ names = take_all most names few in
    record { count = c.count ∙ ap length f; bytes = c.bytes ∙ ap (λ (ns : List Bytes). length (flatten ns)) f }

module _ (ss : List (List Word)) (s : Survey) (g : TellsSequences ss s) (w : AllWithin (text_counts ss)) where
  pub labels_counted : CountsAll (distinct (labels_of (all_words ss))) s.labels
  labels_counted = counts_all (let few = w.0 in omega (arith, few)) g.labels

  pub names_counted : CountsAll (distinct (names_of (all_attributes (all_words ss)))) s.names
  names_counted = counts_all (let few = w.1.0 in omega (arith, few)) g.names

  pub sizes_told : sizes_in_of s ≡ sizes_for ss
  sizes_told =
      let l = labels_counted in
      let n = names_counted in
      λ i. record {
        labels = l.count i;
        names = n.count i;
        instances = g.sequences i;
        words = g.words i;
        attributes = g.attributes i;
        label_bytes = l.bytes i;
        name_bytes = n.bytes i;
        scale_bytes = g.scales i;
      }

-- nothing that is counted is above the text's bytes
pub survey_small : {text : Bytes} {s : Survey} (h : WellFormed text) → length text ≤ 4294967295 → TextSurveyed (sequences h.lines) s → AllWithin (text_counts (sequences h.lines)) → SmallSurvey s
survey_small {text} {s} h small g w =
    let ss : List (List Word) = sequences h.lines in
    let f : InText ss (length text) = subst (λ (t : Bytes). InText ss (length t)) h.made (fits_in_text h.lines h.sound) in
    let l = labels_counted ss s g.tells w in
    let n = names_counted ss s g.tells w in
    record {
      few = g.few;
      label_bytes_of = omega (arith, l.bytes, f.label_bytes_of, small);
      name_bytes_of = omega (arith, n.bytes, f.name_bytes_of, small);
      scale_bytes_of = omega (arith, g.tells.scales, f.scale_bytes_of, small);
    }

-- sizes that are accepted are of counts within their bounds
pub sized_within : (bytes : ℕ) (ss : List (List Word)) → text_sized bytes ss ≡ Ok tt → AllWithin (text_counts ss)
sized_within bytes ss e = ((text_checks_mean bytes ss none).0.accepted.0 e).0.1
  where
    none : Lengths
    none = record { lines = 0; begins = 0; ids = 0; values = 0; references = 0; weights = 0; label_starts = 0; label_bytes = 0; name_starts = 0; name_bytes = 0; scale_starts = 0; scale_bytes = 0 }
