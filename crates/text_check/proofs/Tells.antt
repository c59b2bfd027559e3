-- What a survey of a whole text tells of its sequences. Assumes nothing.
use mathlib.Core.Path.{◌≡◌, refl, sym, ap, subst, ◌∙◌}
use mathlib.Core.List.{List, [], ◌∷◌, flatten}
use Rattle.std.specs.Prelude.{Some, None}
use Rattle.std.proofs.lemmas.Option.{none-some}
use native.Mathlib.Numerals.{add-one}
use Prim.Native.Nat.{ℕ, zero, suc, ◌+◌, ◌≤◌}
use native.Mathlib.Omega.{arith}
use lib.ListN.{length, take, replicate, length-replicate}
use Rattle.layout.specs.Layout.{Bytes, WellFormed, sequences}
use Rattle.layout.proofs.Runs.{none_empty}
use Rattle.text_tables.specs.Pieces.{pieces_of}
use Rattle.text_tables.specs.Tally.{tally_of, Tallies}
use Rattle.text_tables.specs.InText.{InText}
use Rattle.text_tables.proofs.Tallied.{tally_means}
use Rattle.text_tables.proofs.InText.{fits_in_text}
use Rattle.survey.specs.declared.NameSums.{NameSums}
use Rattle.survey.specs.declared.Figures.{Figures}
use Rattle.survey.specs.declared.Survey.{Survey}
use Rattle.survey.specs.Surveyed.{number_before, KnowsFront, Surveys, SurveyAsked}
use Rattle.survey.proofs.Named.{counted_in}
use Rattle.distinct.specs.Slots.{Filed}
use Rattle.distinct.proofs.Learning.{none_filed}
use Rattle.text_check.specs.Told.{CountsFront, TellsSequences, FewSurvey, TextSurveyed}

front_counted : {text : Bytes} {places : List ℕ} {names known : List Bytes} {sums : NameSums} (most : ℕ) → length places ≡ most → known ≡ names → KnowsFront text places known sums → CountsFront most names sums
front_counted {text} {places} {names} {known} {sums} most e f k = record {
  count = counted_in k ∙ (λ i. length (take (e i) (f i)));
  bytes = k.bytes ∙ (λ i. length (flatten (take (e i) (f i))));
}

number_none : (k : ℕ) → number_before k ≡ None → k ≡ 0
number_none zero e = refl
number_none (suc i) e = absurd (none-some i (sym e))

number_some : (k i : ℕ) → number_before k ≡ Some i → k ≡ i + 1
number_some zero i e = absurd (none-some i e)
number_some (suc k) i e = let s : k ≡ i = cc in ap suc s ∙ sym (add-one i)

pub survey_tells : {text : Bytes} {labels slots positions : List ℕ} {s : Survey} (h : WellFormed text) → length labels ≡ 33 → length positions ≡ 65536 → Surveys text labels slots positions s (tally_of (pieces_of h.lines))
    → TellsSequences (sequences h.lines) s
survey_tells {text} {labels} {slots} {positions} {s} h l p g =
    let m : Tallies (sequences h.lines) (tally_of (pieces_of h.lines)) = tally_means h.lines in
    let c = g.counted in
    let long : s.figures.long ≡ number_before (tally_of (pieces_of h.lines)).long = ap (λ (f : Figures). f.long) c in
    record {
      none_empty = none_empty h.lines;
      sequences = ap (λ (f : Figures). f.sequences) c ∙ m.sequences;
      words = ap (λ (f : Figures). f.words) c ∙ m.words;
      attributes = ap (λ (f : Figures). f.attributes) c ∙ m.attributes;
      scales = ap (λ (f : Figures). f.scales) c ∙ m.scale_bytes_of;
      labels = front_counted 33 l m.labels g.labelled;
      names = front_counted 65536 p m.names g.named.listed;
      none_long = ((λ e. m.none_long.0 (number_none _ (sym long ∙ e))), (λ n. long ∙ ap number_before (m.none_long.1 n)));
      first_long = λ i. ((λ e. (m.first_long i).0 (number_some _ i (sym long ∙ e))), (λ f. long ∙ ap number_before ((m.first_long i).1 f ∙ add-one i)));
    }

-- ---- it stays small

front_most : {A : Type 0} (n : ℕ) (xs : List A) → length (take n xs) ≤ n
front_most zero xs = omega arith
front_most (suc n) [] = omega arith
front_most (suc n) (x ∷ xs) = let h = front_most n xs in omega (arith, h)

few_counted : {names : List Bytes} {sums : NameSums} (most : ℕ) → most ≤ 65536 → CountsFront most names sums → sums.count ≤ 4294967295
few_counted {names} {sums} most h c =
    let e = c.count in
    let f = front_most most names in
    omega (arith, h, e, f)

pub survey_few : {text : Bytes} {s : Survey} (h : WellFormed text) → length text ≤ 4294967295 → TellsSequences (sequences h.lines) s → FewSurvey s
survey_few {text} {s} h small g =
    let f : InText (sequences h.lines) (length text) = subst (λ (t : Bytes). InText (sequences h.lines) (length t)) h.made (fits_in_text h.lines h.sound) in
    record {
      sequences = omega (arith, g.sequences, f.instances, small);
      words = omega (arith, g.words, f.words, small);
      attributes = omega (arith, g.attributes, f.attributes, small);
      labels = few_counted 33 (omega arith) g.labels;
      names = few_counted 65536 (omega arith) g.names;
    }

pub text_surveyed : {text : Bytes} {labels slots positions : List ℕ} {s : Survey} (h : WellFormed text) → length text ≤ 4294967295 → length labels ≡ 33 → length positions ≡ 65536
    → Surveys text labels slots positions s (tally_of (pieces_of h.lines)) → TextSurveyed (sequences h.lines) s
text_surveyed h small l p g = let t = survey_tells h l p g in record { tells = t; few = survey_few h small t }

-- ---- new arrays

zeros_long : (n m : ℕ) → n ≡ m → length {A = ℕ} (replicate n 0) ≡ m
zeros_long n m e = length-replicate n 0 ∙ e

pub new_labels : length {A = ℕ} (replicate 33 0) ≡ 33
new_labels = zeros_long 33 33 refl

pub new_positions : length {A = ℕ} (replicate 65536 0) ≡ 65536
new_positions = zeros_long 65536 65536 refl

pub new_slots : (length {A = ℕ} (replicate 131072 0) ≡ 131072) × Filed (length {A = ℕ} (replicate 131072 0)) [] (replicate 131072 0)
new_slots = (zeros_long 131072 131072 refl, free 131072 131072 refl)
  where
    free : (n m : ℕ) → n ≡ m → Filed (length {A = ℕ} (replicate n 0)) [] (replicate n 0)
    free n m e = none_filed n

pub arrays_ready : {text : Bytes} {labels slots positions : List ℕ} → length text ≤ 4294967295 → length labels ≡ 33 → length positions ≡ 65536 → length slots ≡ 131072 → Filed (length slots) [] slots
    → SurveyAsked text labels slots positions
arrays_ready small l p k f = record {
  rooms = record { small = small; labels_few = omega (arith, l); room = omega (arith, p, k); slots_few = omega (arith, k) };
  free = f;
}
