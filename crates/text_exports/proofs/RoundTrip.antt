-- What was read is written, and what was written is read back, by the calls as C has them. Assumes nothing.
use Rattle.refusals.specs.declared.Refusal.{Refusal}
use Rattle.std.specs.Prelude.{Ok, Result}
use mathlib.Core.Path.{◌≡◌, refl, sym, ap, subst, ◌∙◌}
use mathlib.Core.List.{List, [], ◌∷◌, flatten}
use Prim.Native.Nat.{ℕ, ◌≤◌}
use native.Mathlib.Omega.{arith}
use lib.ListN.{length, take, drop}
use lib.Seq.{take_at}
use Rattle.refusals.specs.Refusals.{Checked}
use Rattle.refusals.specs.Said.{accepted}
use Rattle.refusal_rows.specs.Tests.{AllGood}
use Rattle.refusal_rows.proofs.Means.{fitting}
use Rattle.layout.specs.Layout.{Bytes, Word, Line, SoundText, text_of, WellFormed, sequences, NoneEmpty}
use Rattle.layout.proofs.Runs.{none_empty}
use Rattle.text_tables.specs.Tables.{all_words, tables}
use Rattle.text_tables.specs.Laid.{laid}
use Rattle.text_tables.specs.Written.{unwritten, all_lines, written_text}
use Rattle.text_tables.specs.RoundTrip.{amounts_of}
use Rattle.text_tables.specs.Tails.{Tails, lent_with}
use Rattle.text_tables.proofs.Carried.{read_is_writable}
use Rattle.text_tables.proofs.InText.{few_written}
use Rattle.text_tables.proofs.Tails.{tails_unread, tables_reached}
use Rattle.text_check.specs.declared.Lengths.{Lengths}
use Rattle.text_check.specs.Rows.{sequence_tests}
use Rattle.text_check.specs.Meaning.{TextFits}
use Rattle.text_check.proofs.Meant.{text_checks_mean}
use Rattle.write_check.specs.Rows.{Unchecked}
use Rattle.write_text.specs.Promise.{checked_of as writing_checked, answer_to, text_after}
use Rattle.write_text.specs.Accepts.{read_given, ReadWithin}
use Rattle.write_text.proofs.Accepts.{accepts_the_read}
use Rattle.read_text.specs.declared.TextSizes.{TextSizes}
use Rattle.read_text.specs.Promise.{Buffers, Outcome, said, sizes_for, lengths_of, checked_of, laid_over, holding}
use Rattle.read_text.specs.Again.{lent_back}
use Rattle.read_text.proofs.Unique.{told}
use Rattle.read_text.proofs.Meant.{promise_means}
use Rattle.read_text.proofs.Again.{behind, reads_the_same}
use Rattle.text_exports.specs.declared.WrittenText.{WrittenText}
use Rattle.text_exports.specs.Numbers.{read_numbers, written_numbers}
use Rattle.text_exports.specs.Promise.{ReadOutcome, Reads, WriteOutcome, Writes}
use Rattle.text_exports.specs.RoundTrip.{sizes_told, given_back, RoundTrip}
use Rattle.text_exports.proofs.Meant.{accepted_sizes}

-- ---- what reading accepts is within what the writer accepts
some_words : (ss : List (List Word)) → NoneEmpty ss → 1 ≤ length ss → 1 ≤ length (all_words ss)
unfolding flatten
some_words [] e h = absurd (omega (arith, h))
some_words ([] ∷ ss) e h = absurd e
some_words ((w ∷ ws) ∷ ss) e h = omega arith

read_within : (ls : List Line) → SoundText ls → (bytes : ℕ) (have : Lengths) → TextFits bytes (sequences ls) have → AllGood (sequence_tests (sequences ls)) → ReadWithin (sequences ls)
unfolding tables
read_within ls sound bytes have fits good =
    let ss : List (List Word) = sequences ls in
    let counts = fits.1.0 in
    let words : 1 ≤ length (all_words ss) = some_words ss (none_empty ls) counts.1.1.0.0 in
    let first = (read_is_writable ls sound).references 0 words in
    record {
      labels = record { low = omega (arith, first); high = counts.0 };
      names = counts.1.0;
      some = counts.1.1.0.0;
      instances = counts.1.1.0.1;
      words = counts.1.1.1.0;
      attributes = counts.1.1.1.1.0;
      lengths = fitting (tables ss).corpus.starts (length ss) good.0;
    }

-- ---- the tables as the writer is lent them
given_is : (ss : List (List Word)) (b : Buffers) → given_back (read_numbers (accepted (sizes_for ss))) (laid_over (tables ss) b) ≡ read_given ss (behind (tables ss) b)
unfolding laid tables
given_is ss b = refl

same_text : (ss : List (List Word)) (tails : Tails) → written_text (lent_with (unwritten (tables ss)) tails) ≡ written_text (unwritten (tables ss))
same_text ss tails = ap (λ (rs : List (List Word)). text_of (all_lines rs)) (tails_unread (unwritten (tables ss)) (amounts_of ss) (tables_reached ss) tails)

-- ---- an accepted writing
module _ (given : Unchecked) (room : Bytes) (written : WriteOutcome) (fine : writing_checked given room ≡ Ok tt) (w : Writes given room written) where
  told_length : written.answer ≡ written_numbers (accepted (length (written_text given.tables)))
  unfolding answer_to
  told_length = rw fine at w.answers

  text_is : take (length (written_text given.tables)) written.text ≡ written_text given.tables
  unfolding text_after laid
  text_is =
      let t : Bytes = written_text given.tables in
      ap (take (length t)) (rw fine at w.text) ∙ take_at t (drop (length t) room) (length t) refl

-- ---- an accepted reading: its lines, and what it left
record Took (text : Bytes) (before : Buffers) (outcome : ReadOutcome) (reading : Result TextSizes Refusal) : Type 0 where
  formed : WellFormed text
  fits : TextFits (length text) (sequences formed.lines) (lengths_of before)
  good : AllGood (sequence_tests (sequences formed.lines))
  answer_is : outcome.answer ≡ read_numbers (accepted (sizes_for (sequences formed.lines)))
  after_is : outcome.after ≡ laid_over (tables (sequences formed.lines)) before
  reading_is : reading ≡ Ok (sizes_told outcome.answer)

took : (text : Bytes) (before : Buffers) (outcome : ReadOutcome) (kept : Reads text before outcome) → outcome.answer.number ≡ 0 → Took text before outcome kept.reading
took text before outcome kept zero =
    let t = accepted_sizes text before outcome kept zero in
    let f = ((promise_means text before _ kept.promised).taken t.0).0 t.1 in
    let ls : List Line = f.0.lines in
    let check : checked_of text (sequences ls) before ≡ Ok tt = (text_checks_mean (length text) (sequences ls) (lengths_of before)).1.accepted.1 (f.1, f.2) in
    let told_so : outcome.answer ≡ read_numbers (accepted t.0) = kept.answers ∙ ap read_numbers t.1 in
    record {
      formed = f.0;
      fits = f.1;
      good = f.2;
      answer_is = told_so ∙ ap (λ (sizes : TextSizes). read_numbers (accepted sizes)) f.3;
      after_is = (kept.promised.whole ls f.0.sound f.0.made).after ∙ ap (λ (c : Checked). holding c (tables (sequences ls)) before) check;
      reading_is = told kept.reading (Ok (sizes_told outcome.answer)) (t.1 ∙ ap accepted (sym (ap sizes_told told_so)));
    }

-- what was written is read back to the same
back : (text : Bytes) (before : Buffers) (outcome again : ReadOutcome) (p : Reads text before outcome) → p.reading ≡ Ok (sizes_told outcome.answer)
    → let written = written_text (lent_back (sizes_told outcome.answer) outcome.after) in length written ≤ 4294967295 → Reads written before again → again ≡ outcome
back text before outcome again p is few q =
    let same : ◌≡◌ {A = Outcome} (record { answer = q.reading; after = again.after }) (record { answer = p.reading; after = outcome.after }) =
    reads_the_same text before _ (sizes_told outcome.answer) p.promised is few _ q.promised in
    let e : again.answer ≡ outcome.answer = q.answers ∙ ap (λ (o : Outcome). read_numbers (said o.answer)) same ∙ sym p.answers in
    let t : again.after ≡ outcome.after = ap (λ (o : Outcome). o.after) same in
    λ i. record { answer = e i; after = t i }

pub round_trip : RoundTrip
round_trip text before outcome kept zero room enough written w =
    let t = took text before outcome kept zero in
    let ls : List Line = t.formed.lines in
    let ss : List (List Word) = sequences ls in
    let tails : Tails = behind (tables ss) before in
    let given : Unchecked = given_back outcome.answer outcome.after in
    let is : given ≡ read_given ss tails = (λ i. given_back (t.answer_is i) (t.after_is i)) ∙ given_is ss before in
    let same : length (written_text given.tables) ≡ length (written_text (unwritten (tables ss))) = ap (λ (g : Unchecked). length (written_text g.tables)) is ∙ ap length (same_text ss tails) in
    let made : length (text_of ls) ≡ length text = ap length t.formed.made in
    let few = few_written ls t.formed.sound in
    let within = read_within ls t.formed.sound (length text) (lengths_of before) t.fits t.good in
    let fine : writing_checked given room ≡ Ok tt = ap (λ (g : Unchecked). writing_checked g room) is ∙ accepts_the_read ls t.formed.sound within tails room (omega (arith, few, made, enough)) in
    let told_so = told_length given room written fine w in
    let size : written.answer.length ≡ length (written_text given.tables) = ap (λ (a : WrittenText). a.length) told_so in
    record {
      accepted = ap (λ (a : WrittenText). a.number) told_so;
      few = omega (arith, size, same, few, made);
      same = λ short again q.
          let front = ap (λ (k : ℕ). take k written.text) size ∙ text_is given room written fine w in
          back text before outcome again kept t.reading_is (omega (arith, size, short)) (subst (λ (b : Bytes). Reads b before again) front q);
    }
