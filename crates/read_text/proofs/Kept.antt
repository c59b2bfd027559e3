-- Each way out of the two calls keeps the promise. Assumes nothing.
use Rattle.std.specs.Prelude.{Ok, Err, Result}
use mathlib.Core.Path.{◌≡◌, refl, sym, ap, subst, ◌∙◌}
use mathlib.Core.List.{List, ◌∷◌}
use Prim.Native.Nat.{ℕ}
use lib.ListN.{length}
use Rattle.refusals.specs.declared.Refusal.{Refusal}
use Rattle.refusals.specs.Refusals.{Checked, or_next_of}
use Rattle.refusals.specs.Said.{accepted, refused, or_refused}
use Rattle.refusals.proofs.Laws.{settled}
use Rattle.refusal_rows.specs.Limits.{two}
use Rattle.refusal_rows.specs.Tests.{checks}
use Rattle.layout.specs.Layout.{Bytes, Word, WellFormed, sequences}
use Rattle.text_tables.specs.Tables.{Tables, tables}
use Rattle.fill_text.specs.Filled.{StringsLaid, WordsLaid, AttributesLaid}
use Rattle.text_check.specs.Rows.{too_long_of, text_counts, text_rooms, sequence_tests, text_sized, text_checked}
use Rattle.text_check.specs.declared.Lengths.{Lengths}
use Rattle.text_bytes.specs.Bytes.{bytes_checked}
use Rattle.text_bytes.proofs.Told.{bytes_mean}
use Rattle.read_text.specs.declared.TextSizes.{TextSizes}
use Rattle.read_text.specs.Promise.{Buffers, Outcome, said, sizes_for, lengths_of, checked_of, laid_over, holding, Yields, ReadOf, Promised}
use Rattle.read_text.specs.Sizes.{sized_of, SizesPromised}

-- ---- the bytes

-- 2 of the length comes first of what is refused of a well-formed text
long_first : (bytes : ℕ) (ss : List (List Word)) (have : Lengths) (why : Refusal) → too_long_of bytes ≡ Err why → (text_sized bytes ss ≡ Err why) × (text_checked bytes ss have ≡ Err why)
unfolding text_sized text_checked
long_first bytes ss have why e =
    let f : or_next_of (Ok tt) (too_long_of bytes) ≡ Err why = unfold or_next_of in e in (
      settled (or_next_of (Ok tt) (too_long_of bytes)) (two (text_counts ss) ∷ checks (sequence_tests ss)) why f,
      settled (or_next_of (Ok tt) (too_long_of bytes)) (two (text_counts ss) ∷ two (text_rooms (tables ss) have) ∷ checks (sequence_tests ss)) why f,
    )

-- a refusal is given, and the tables are as they were
refused_read : (text : Bytes) (ss : List (List Word)) (before : Buffers) (why : Refusal) → checked_of text ss before ≡ Err why → ReadOf text ss before (record { answer = Err why; after = before })
refused_read text ss before why e =
    subst (λ (check : Checked). Yields (or_refused check (accepted (sizes_for ss))) (holding check (tables ss) before) (record { answer = Err why; after = before })) (sym e)
    (record { answers = refl; after = refl })

pub bytes_refused : (text : Bytes) (before : Buffers) (why : Refusal) → bytes_checked text ≡ Err why → Promised text before (record { answer = Err why; after = before })
bytes_refused text before why e =
    let r = (bytes_mean text).refused why e in
    record {
      malformed = λ place g. record { answers = ap refused (r.malformed place g); after = refl };
      whole = λ ls sound made.
          refused_read text (sequences ls) before why (long_first (length text) (sequences ls) (lengths_of before) why (r.whole (record { lines = ls; sound = sound; made = made }))).1;
    }

-- whatever lines make the text, it is read
pub read_kept : (text : Bytes) (before : Buffers) (outcome : Outcome) → WellFormed text → ((h : WellFormed text) → ReadOf text (sequences h.lines) before outcome) → Promised text before outcome
read_kept text before outcome w g = record {
  malformed = λ place p. absurd (p.malformed w);
  whole = λ ls sound made. g (record { lines = ls; sound = sound; made = made });
}

-- ---- 2 and 4

pub check_refused : (text : Bytes) (before : Buffers) (why : Refusal) → ((h : WellFormed text) → checked_of text (sequences h.lines) before ≡ Err why)
    → (h : WellFormed text) → ReadOf text (sequences h.lines) before (record { answer = Err why; after = before })
check_refused text before why e h = refused_read text (sequences h.lines) before why (e h)

-- what a filling leaves in the tables
abbrev pub Filled : Tables → Buffers → Buffers → Type 0
Filled t before after =
    StringsLaid t.labels before.label_starts_of before.label_bytes_of after.label_starts_of after.label_bytes_of
    × StringsLaid t.names before.name_starts_of before.name_bytes_of after.name_starts_of after.name_bytes_of
    × WordsLaid t before.line_starts before.word_starts_of before.references before.weights after.line_starts after.word_starts_of after.references after.weights
    × AttributesLaid t before.ids before.values before.scale_starts_of before.scale_bytes_of after.ids after.values after.scale_starts_of after.scale_bytes_of

laid_over_lem : (t : Tables) (before after : Buffers) → Filled t before after → after ≡ laid_over t before
laid_over_lem t before after (l, n, w, a) = λ i. record {
  line_starts = w.line_starts i;
  word_starts_of = w.word_starts_of i;
  ids = a.ids i;
  values = a.values i;
  references = w.references i;
  weights = w.weights i;
  label_starts_of = l.starts i;
  label_bytes_of = l.bytes i;
  name_starts_of = n.starts i;
  name_bytes_of = n.bytes i;
  scale_starts_of = a.starts i;
  scale_bytes_of = a.scales i;
}

pub filled_read : (text : Bytes) (ss : List (List Word)) (before after : Buffers) (sizes : TextSizes) → checked_of text ss before ≡ Ok tt → sizes ≡ sizes_for ss → Filled (tables ss) before after
    → ReadOf text ss before (record { answer = Ok sizes; after = after })
filled_read text ss before after sizes e s f =
    subst (λ (check : Checked). Yields (or_refused check (accepted (sizes_for ss))) (holding check (tables ss) before) (record { answer = Ok sizes; after = after })) (sym e)
    (record { answers = ap accepted s; after = laid_over_lem (tables ss) before after f })

-- ---- the sizes

pub sizes_refused : (text : Bytes) (why : Refusal) → bytes_checked text ≡ Err why → SizesPromised text (Err why)
sizes_refused text why e =
    let r = (bytes_mean text).refused why e in
    record {
      malformed = λ place g. ap refused (r.malformed place g);
      whole = λ ls sound made.
          let c = (long_first (length text) (sequences ls) none why (r.whole (record { lines = ls; sound = sound; made = made }))).0 in
          sym (ap (λ (check : Checked). or_refused check (accepted (sizes_for (sequences ls)))) c);
    }
  where
    none : Lengths
    none = record { lines = 0; begins = 0; ids = 0; values = 0; references = 0; weights = 0; label_starts = 0; label_bytes = 0; name_starts = 0; name_bytes = 0; scale_starts = 0; scale_bytes = 0 }

pub sizes_kept : (text : Bytes) (answer : Result TextSizes Refusal) → WellFormed text → ((h : WellFormed text) → said answer ≡ sized_of text (sequences h.lines)) → SizesPromised text answer
sizes_kept text answer w g = record {
  malformed = λ place p. absurd (p.malformed w);
  whole = λ ls sound made. g (record { lines = ls; sound = sound; made = made });
}

pub sized_refused : (text : Bytes) (ss : List (List Word)) (why : Refusal) → text_sized (length text) ss ≡ Err why → said (Err why) ≡ sized_of text ss
sized_refused text ss why e = sym (ap (λ (check : Checked). or_refused check (accepted (sizes_for ss))) e)

pub sized_accepted : (text : Bytes) (ss : List (List Word)) (sizes : TextSizes) → text_sized (length text) ss ≡ Ok tt → sizes ≡ sizes_for ss → said (Ok sizes) ≡ sized_of text ss
sized_accepted text ss sizes e s = ap accepted s ∙ sym (ap (λ (check : Checked). or_refused check (accepted (sizes_for ss))) e)
