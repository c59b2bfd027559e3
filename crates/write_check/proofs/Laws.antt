-- What the rows give: sizes that fit, tables that are sound, and strings, words and sequences that stand in them. Assumes nothing.
use Rattle.std.specs.Prelude.{Ok, Err}
use mathlib.Core.Path.{◌≡◌, sym, ◌∙◌, ap}
use mathlib.Core.Bool.{Bool, ◌||◌}
use mathlib.Core.List.{List, [], ◌∷◌, ◌++◌}
use Prim.Native.Nat.{ℕ, ◌+◌, ◌≤◌, ◌<◌}
use native.Mathlib.Omega.{arith}
use lib.ListN.{length, get_or}
use Rattle.refusals.specs.declared.Refusal.{Refusal}
use Rattle.refusals.specs.Refusals.{Checked, first, first_from, or_next_of, refuse}
use Rattle.refusals.specs.Meaning.{Starts, AllAccepted}
use Rattle.refusals.proofs.Laws.{settled, all_accepted}
use Rattle.refusals.proofs.Meant.{starts_kept, ids_below, within}
use Rattle.score_tables.specs.Rows.{one}
use Rattle.score_tables.proofs.Meant.{one_means}
use Rattle.refusal_rows.specs.Limits.{any_broken, two}
use Rattle.refusal_rows.specs.Tests.{lines_fit, checks}
use Rattle.refusal_rows.proofs.Means.{two_means, broken_parts, test_means, fitting}
use Rattle.refusal_rows.proofs.Parts.{two_parts}
use Rattle.text_tables.specs.Tables.{Strings}
use Rattle.text_writing.specs.Ready.{StringStands, ListStands, AttributeStands, WordStands, SequenceStands}
use Rattle.text_writing.specs.Sums.{LabelStands, Measurable}
use Rattle.write_check.specs.Rows.{Unchecked, written_counts, word_rooms, string_rooms, written_rooms, written_starts, written_lengths, written_ids, read_rows, text_rows, write_checked, write_sized_of, write_read}
use Rattle.write_check.specs.Sound.{WriteFits, SoundUnwritten}

-- a list of lists whose starts rise, and a string of one
list_stands : {starts : List ℕ} {n entries i : ℕ} → Starts starts n entries → n + 1 ≤ length starts → i < n → ListStands starts i
list_stands {starts} {n} {entries} {i} s l h = record { inside = omega (arith, l, h); rises = s.rises i h }

pub string_stands : {s : Strings} {n entries i : ℕ} → Starts s.starts n entries → n + 1 ≤ length s.starts → entries ≤ length s.bytes → i < n → StringStands s i
string_stands {s} {n} {entries} {i} r l b h =
    let w = within r (i + 1) (omega (arith, h)) in
    record { list = list_stands r l h; ends = omega (arith, w, b) }

module _ (g : Unchecked) where
  -- sizes that are tested part by part
  pub write_sized : first (one g.labels ∷ two (written_counts g) ∷ refuse 2 0 (any_broken (word_rooms g) || any_broken (string_rooms g)) ∷ []) ≡ write_sized_of g
  unfolding write_sized_of
  write_sized =
      ap (λ (lacking : Bool). first (one g.labels ∷ two (written_counts g) ∷ refuse 2 0 lacking ∷ [])) (sym (broken_parts (word_rooms g) (string_rooms g)))

  -- the last of them, where the others accept
  pub rooms_last : {labels counts r : Checked} → labels ≡ one g.labels → labels ≡ Ok tt → counts ≡ two (written_counts g) → counts ≡ Ok tt →
      r ≡ refuse 2 0 (any_broken (word_rooms g) || any_broken (string_rooms g)) → r ≡ write_sized_of g
  unfolding write_sized_of or_next_of
  rooms_last a h b k c = rw (sym a ∙ h, sym b ∙ k) (c ∙ two_parts (word_rooms g) (string_rooms g))

  -- a refusal by size, or of what is read, is the call's
  pub size_stopped : (have : ℕ) (why : Refusal) → write_sized_of g ≡ Err why → Err why ≡ write_checked g have
  unfolding write_sized_of write_checked
  size_stopped have why h =
      sym
      (settled (first (one g.labels ∷ two (written_counts g) ∷ two (written_rooms g) ∷ []))
      ((checks (written_starts g) ++ checks (written_lengths g) ++ checks (written_ids g)) ++ text_rows g have)
      why
      h)

  pub read_stopped : (have : ℕ) (why : Refusal) → write_read g ≡ Err why → Err why ≡ write_checked g have
  unfolding write_read write_checked
  read_stopped have why h = sym (settled (first (read_rows g)) (text_rows g have) why h)

  pub lists_read : {sizes r : Checked} → sizes ≡ write_sized_of g → r ≡ first_from sizes (checks (written_starts g ++ written_lengths g ++ written_ids g)) → r ≡ write_read g
  unfolding write_sized_of write_read
  lists_read a b = rw (b, a)

  pub all_read : {lists r : Checked} (have : ℕ) → lists ≡ write_read g → r ≡ first_from lists (text_rows g have) → r ≡ write_checked g have
  unfolding write_read write_checked
  all_read have a b = rw (b, a)

  -- the same, where what came before accepts
  pub lists_last : {sizes r : Checked} → sizes ≡ write_sized_of g → sizes ≡ Ok tt → r ≡ first (checks (written_starts g ++ written_lengths g ++ written_ids g)) → r ≡ write_read g
  unfolding write_sized_of write_read
  lists_last e h a = a ∙ ap (λ (sizes : Checked). first_from sizes (checks (written_starts g) ++ checks (written_lengths g) ++ checks (written_ids g))) (sym h ∙ e)

  pub text_last : {lists r : Checked} (have : ℕ) → lists ≡ write_read g → lists ≡ Ok tt → r ≡ first (text_rows g have) → r ≡ write_checked g have
  unfolding write_read write_checked
  text_last have e h a = a ∙ ap (λ (lists : Checked). first_from lists (text_rows g have)) (sym h ∙ e)

  fits_of : AllAccepted (one g.labels ∷ two (written_counts g) ∷ two (written_rooms g) ∷ []) → WriteFits g
  fits_of a = record {
    labels = (one_means g.labels).accepted.0 a.0;
    counts = (two_means (written_counts g)).accepted.0 a.1.0;
    rooms = (two_means (written_rooms g)).accepted.0 a.1.1.0;
  }

  pub write_fits : (r : Checked) → r ≡ write_sized_of g → r ≡ Ok tt → WriteFits g
  unfolding write_sized_of
  write_fits r e h = fits_of (all_accepted (Ok tt) (one g.labels ∷ two (written_counts g) ∷ two (written_rooms g) ∷ []) (sym e ∙ h)).1

  pub sound_rows : AllAccepted (read_rows g) → SoundUnwritten g
  sound_rows a =
      let s = a.1.1.1 in
      let t = s.1.1.1.1.1 in
      record {
        fits = fits_of (a.0, (a.1.0, (a.1.1.0, tt)));
        lines = (starts_kept g.tables.line_starts g.tables.instances g.words).0 s.0;
        begins = (starts_kept g.tables.word_starts_of g.words g.attributes).0 s.1.0;
        labels = (starts_kept g.tables.labels.starts g.labels g.label_bytes_of).0 s.1.1.0;
        names = (starts_kept g.tables.names.starts g.names g.name_bytes_of).0 s.1.1.1.0;
        scales = (starts_kept g.tables.scales.starts g.attributes g.scale_bytes_of).0 s.1.1.1.1.0;
        lengths = fitting g.tables.line_starts g.tables.instances ((test_means (lines_fit g.tables.line_starts g.tables.instances)).accepted.0 t.0);
        ids = ids_below g.tables.ids g.attributes g.names t.1.0;
        references = ids_below g.tables.references g.words g.labels t.1.1.0;
      }

  pub write_sound : (r : Checked) → r ≡ write_read g → r ≡ Ok tt → SoundUnwritten g
  unfolding write_read
  write_sound r e h = sound_rows (all_accepted (Ok tt) (read_rows g) (sym e ∙ h)).1

module _ {g : Unchecked} (s : SoundUnwritten g) where
  pub labels_stand : (i : ℕ) → i < g.labels → StringStands g.tables.labels i
  labels_stand i h = let r = s.fits.rooms in string_stands s.labels r.1.1.1.1.0 r.1.1.1.1.1.0 h

  pub names_stand : (i : ℕ) → i < g.names → StringStands g.tables.names i
  names_stand i h = let r = s.fits.rooms in string_stands s.names r.1.1.1.1.1.1.0 r.1.1.1.1.1.1.1.0 h

  pub scales_stand : (i : ℕ) → i < g.attributes → StringStands g.tables.scales i
  scales_stand i h = let r = s.fits.rooms in string_stands s.scales r.1.1.1.1.1.1.1.1.0 r.1.1.1.1.1.1.1.1.1.0 h

  attribute_stands : (a : ℕ) → a < g.attributes → AttributeStands g.tables.ids g.tables.names g.tables.scales a
  attribute_stands a h =
      let r = s.fits.rooms in
      let long = r.1.1.0 in
      record { inside = omega (arith, h, long); name = names_stand (get_or g.tables.ids a 0) (s.ids a h); scale = scales_stand a h }

  label_stands : (w : ℕ) → w < g.words → LabelStands g.tables.references g.tables.labels w
  label_stands w h =
      let r = s.fits.rooms in
      let long = r.1.1.1.0 in
      record { inside = omega (arith, h, long); label = labels_stand (get_or g.tables.references w 0) (s.references w h) }

  word_stands : (w : ℕ) → w < g.words → WordStands g.tables w
  word_stands w h =
      let r = s.fits.rooms in
      let l = label_stands w h in
      let e = within s.begins (w + 1) (omega (arith, h)) in
      record { inside = l.inside; label = l.label; list = list_stands s.begins r.1.0 h; attributes = λ a k. attribute_stands a (omega (arith, k, e)) }

  pub sequence_stands : (i : ℕ) → i < g.tables.instances → SequenceStands g.tables i
  sequence_stands i h =
      let r = s.fits.rooms in
      let e = within s.lines (i + 1) (omega (arith, h)) in
      record { list = list_stands s.lines r.0 h; words = λ w k. word_stands w (omega (arith, k, e)) }

  pub measurable : Measurable g.tables g.words g.attributes
  measurable =
      let c = s.fits.counts in
      record {
        few_instances = c.1.0.1;
        few_words = c.1.1.0;
        few_attributes = c.1.1.1.0;
        lines = s.lines;
        begins = s.begins;
        labelled = label_stands;
        marked = attribute_stands;
      }
