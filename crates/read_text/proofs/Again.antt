-- What was written of what was read reads back. Assumes nothing.
use Rattle.std.specs.Prelude.{Ok, Err}
use mathlib.Core.Path.{◌≡◌, refl, sym, ap, subst, ◌∙◌}
use mathlib.Core.List.{List}
use mathlib.Core.Logic.{◌⊎◌, inl, inr}
use Prim.Native.Nat.{ℕ, ◌≤◌}
use lib.ListN.{length, drop}
use Rattle.refusals.specs.Refusals.{Checked}
use Rattle.refusals.specs.Said.{accepted, or_refused}
use Rattle.refusals.proofs.Said.{apart, same_given}
use Rattle.layout.specs.Layout.{Bytes, Word, Line, SoundText, text_of, WellFormed, sequences, NoneEmpty}
use Rattle.layout.specs.Scan.{PlaceOf}
use Rattle.layout.proofs.Runs.{none_empty}
use Rattle.text_tables.specs.Tables.{Tables, tables}
use Rattle.text_tables.specs.Laid.{laid}
use Rattle.text_tables.specs.Written.{unwritten, all_lines, written_text}
use Rattle.text_tables.specs.RoundTrip.{amounts_of}
use Rattle.text_tables.specs.Tails.{Tails, lent_with}
use Rattle.text_tables.proofs.Written.{sequences_of_lines}
use Rattle.text_tables.proofs.RoundTrip.{words_back}
use Rattle.text_tables.proofs.Carried.{written_sound, read_is_writable}
use Rattle.text_tables.proofs.Tails.{tails_unread, tables_reached}
use Rattle.text_check.specs.Rows.{text_checked}
use Rattle.text_check.specs.declared.Lengths.{Lengths}
use Rattle.text_check.proofs.Meant.{text_checks_mean}
use Rattle.read_text.specs.declared.TextSizes.{TextSizes}
use Rattle.read_text.specs.Promise.{Buffers, Outcome, said, sizes_for, lengths_of, checked_of, laid_over, holding, Yields, Promised}
use Rattle.read_text.specs.Again.{lent_back, SameRead, ReadsAgain, ReadsTheSame}
use Rattle.read_text.proofs.Unique.{told, either}

-- what lies behind the tables of sequences
abbrev pub behind : Tables → Buffers → Tails
behind t b = record {
  line_starts = drop (length t.corpus.starts) b.line_starts;
  word_starts_of = drop (length t.corpus.words.starts) b.word_starts_of;
  ids = drop (length t.corpus.words.ids) b.ids;
  references = drop (length t.corpus.references) b.references;
  labels = record { starts = drop (length t.labels.starts) b.label_starts_of; bytes = drop (length t.labels.bytes) b.label_bytes_of };
  names = record { starts = drop (length t.names.starts) b.name_starts_of; bytes = drop (length t.names.bytes) b.name_bytes_of };
  scales = record { starts = drop (length t.scales.starts) b.scale_starts_of; bytes = drop (length t.scales.bytes) b.scale_bytes_of };
}

lent_is : (ss : List (List Word)) (b : Buffers) → lent_back (sizes_for ss) (laid_over (tables ss) b) ≡ lent_with (unwritten (tables ss)) (behind (tables ss) b)
unfolding laid tables
lent_is ss b = refl

-- what is written of them are the lines of the sequences
written_is : (ss : List (List Word)) (b : Buffers) → written_text (lent_back (sizes_for ss) (laid_over (tables ss) b)) ≡ text_of (all_lines ss)
written_is ss b =
    ap written_text (lent_is ss b)
    ∙ ap (λ (rs : List (List Word)). text_of (all_lines rs)) (tails_unread (unwritten (tables ss)) (amounts_of ss) (tables_reached ss) (behind (tables ss) b) ∙ words_back ss)

lines_sound : (ls : List Line) → SoundText ls → SoundText (all_lines (sequences ls))
lines_sound ls h =
    subst (λ (rs : List (List Word)). SoundText (all_lines rs)) (words_back (sequences ls))
    (written_sound (unwritten (tables (sequences ls))) (amounts_of (sequences ls)) (read_is_writable ls h))

-- what an accepted reading gives
record Accepts (ss : List (List Word)) (text : Bytes) (before : Buffers) (sizes : TextSizes) (outcome : Outcome) : Type 0 where
  checked : checked_of text ss before ≡ Ok tt
  sizes_are : sizes ≡ sizes_for ss
  after_is : outcome.after ≡ laid_over (tables ss) before

accepts : (ss : List (List Word)) (text : Bytes) (before : Buffers) (sizes : TextSizes) (outcome : Outcome) → outcome.answer ≡ Ok sizes
    → (check : Checked) → checked_of text ss before ≡ check → Yields (or_refused check (accepted (sizes_for ss))) (holding check (tables ss) before) outcome → Accepts ss text before sizes outcome
accepts ss text before sizes outcome e (Ok _) c g = record { checked = c; sizes_are = same_given (sym (ap said e) ∙ g.answers); after_is = g.after }
accepts ss text before sizes outcome e (Err why) c g = absurd (apart (sym (ap said e) ∙ g.answers))

-- the same checks accept another text of the same sequences that is not too long
still_accepted : (text written : Bytes) (ss : List (List Word)) (have : Lengths) → length written ≤ 4294967295 → text_checked (length text) ss have ≡ Ok tt → text_checked (length written) ss have ≡ Ok tt
still_accepted text written ss have few e =
    let fits = (text_checks_mean (length text) ss have).1.accepted.0 e in
    (text_checks_mean (length written) ss have).1.accepted.1 ((few, fits.0.1), fits.1)

-- a reading of a text of these sequences that is accepted
reads : (ss : List (List Word)) → NoneEmpty ss → SoundText (all_lines ss) → (written : Bytes) → text_of (all_lines ss) ≡ written → (other : Buffers) → checked_of written ss other ≡ Ok tt
    → (again : Outcome) → Promised written other again → Yields (accepted (sizes_for ss)) (laid_over (tables ss) other) again
reads ss full sound written made other c again p =
    subst (λ (check : Checked). Yields (or_refused check (accepted (sizes_for ss))) (holding check (tables ss) other) again) c
    (subst (λ (rs : List (List Word)). Yields (or_refused (checked_of written rs other) (accepted (sizes_for rs))) (holding (checked_of written rs other) (tables rs) other) again)
    (sequences_of_lines ss full) (p.whole (all_lines ss) sound made))

same_read : (ls : List Line) → SoundText ls → (text : Bytes) (before : Buffers) (sizes : TextSizes) (outcome : Outcome) → Accepts (sequences ls) text before sizes outcome
    → length (written_text (lent_back sizes outcome.after)) ≤ 4294967295 → (other : Buffers) → lengths_of other ≡ lengths_of before → (again : Outcome)
    → Promised (written_text (lent_back sizes outcome.after)) other again → SameRead sizes before other outcome again
same_read ls sound text before sizes outcome a few other same again p =
    let ss : List (List Word) = sequences ls in
    let written : Bytes = written_text (lent_back sizes outcome.after) in
    let made : written ≡ text_of (all_lines ss) = (λ i. written_text (lent_back (a.sizes_are i) (a.after_is i))) ∙ written_is ss before in
    let check : checked_of written ss other ≡ Ok tt = ap (λ (have : Lengths). text_checked (length written) ss have) same ∙ still_accepted text written ss (lengths_of before) few a.checked in
    let g = reads ss (none_empty ls) (lines_sound ls sound) written (sym made) other check again p in
    record {
      held = tables ss;
      first = a.after_is;
      second = g.after;
      answer = told again.answer (Ok sizes) (g.answers ∙ ap accepted (sym a.sizes_are));
    }

pub reads_again : ReadsAgain
reads_again text before outcome sizes p e few other same again q = go (either text)
  where
    go : WellFormed text ⊎ ((place : ℕ) × PlaceOf text place) → SameRead sizes before other outcome again
    go (inl h) =
        let ss : List (List Word) = sequences h.lines in
        same_read h.lines h.sound text before sizes outcome
        (accepts ss text before sizes outcome e (checked_of text ss before) refl (p.whole h.lines h.sound h.made))
        few other same again q
    go (inr (place, g)) = absurd (apart (sym (ap said e) ∙ (p.malformed place g).answers))

pub reads_the_same : ReadsTheSame
reads_the_same text before outcome sizes p e few again q =
    let r = reads_again text before outcome sizes p e few before refl again q in
    let answer = r.answer ∙ sym e in
    let after = r.second ∙ sym r.first in
    λ i. record { answer = answer i; after = after i }
