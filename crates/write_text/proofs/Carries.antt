-- What is written is well-formed and has the sequences of the tables. Assumes nothing.
use Rattle.std.specs.Prelude.{Ok}
use mathlib.Core.Path.{◌≡◌, sym, ap, ◌∙◌}
use mathlib.Core.List.{List, ◌++◌}
use native.Mathlib.Omega.{arith}
use lib.ListN.{length, take, drop}
use lib.Seq.{take-append_seam}
use Rattle.refusals.specs.Refusals.{Checked}
use Rattle.refusals.specs.Said.{accepted, or_refused}
use Rattle.refusals.proofs.Said.{accepted_said, same_given}
use Rattle.layout.specs.Layout.{Bytes, Line, sequences, NoneEmpty}
use Rattle.layout.proofs.Read.{one_one}
use Rattle.text_tables.specs.Laid.{laid}
use Rattle.text_tables.specs.Written.{sequences_in, written_lines, written_text}
use Rattle.text_tables.specs.RoundTrip.{Amounts, Writable}
use Rattle.text_tables.proofs.RoundTrip.{same_sequences, each_has_words}
use Rattle.text_tables.proofs.Carried.{written_sound, writes_well_formed}
use Rattle.write_check.specs.Rows.{Unchecked}
use Rattle.write_text.specs.Promise.{checked_of, answer_to, or_untouched, text_after}
use Rattle.write_text.specs.Carries.{WellWritten, WritesTheSame}
use Rattle.write_text.proofs.Kept.{sound}
use Rattle.write_text.proofs.Meant.{writing_means}

abbrev amounts : Unchecked → Amounts
amounts g = record { labels = g.labels; names = g.names; words = g.words; attributes = g.attributes }

module _ (given : Unchecked) (before : Bytes) (h : checked_of given before ≡ Ok tt) where
  pub writable : Writable given.tables (amounts given)
  writable =
      let s = sound given before h in
      let c = ((writing_means given (length before)).accepted.0 h).1.1 in
      record { line_starts = s.lines; word_starts_of = s.begins; ids = s.ids; references = s.references; labels = c.0; names = c.1.0; scales = c.1.1.0 }

  none_empty : NoneEmpty (sequences_in given.tables)
  none_empty =
      let s = sound given before h in
      each_has_words given.tables (λ i l. let w = (s.lengths i l).low in omega (arith, w))

  well_written : (text : Bytes) → take (length (written_text given.tables)) text ≡ written_text given.tables → WellWritten given text (length (written_text given.tables))
  well_written text e =
      let f = writes_well_formed given.tables (amounts given) writable in
      record {
        bytes = e;
        formed = record { lines = f.lines; sound = f.sound; made = f.made ∙ sym e };
        same = λ k.
            let l : k.lines ≡ written_lines given.tables = one_one k.lines (written_lines given.tables) k.sound (written_sound given.tables (amounts given) writable) (k.made ∙ e) in
            ap (λ (ls : List Line). sequences ls) l ∙ (same_sequences given.tables none_empty).0;
      }

pub writes_the_same : WritesTheSame
unfolding answer_to text_after laid
writes_the_same given before outcome promised n e =
    let t : Bytes = written_text given.tables in
    let c : checked_of given before ≡ Ok tt = accepted_said (length t) n (checked_of given before) (sym promised.answers ∙ e) in
    let k : length t ≡ n = same_given (ap (λ (x : Checked). or_refused x (accepted (length t))) (sym c) ∙ sym promised.answers ∙ e) in
    let after : outcome.text ≡ t ++ drop (length t) before = promised.text ∙ ap (λ (x : Checked). or_untouched x before (t ++ drop (length t) before)) c in
    rw (sym k) (well_written given before c outcome.text (ap (take (length t)) after ∙ take-append_seam t (drop (length t) before)))
