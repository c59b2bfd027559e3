-- What `read_sheet` accepts is exactly the files of sound sheets. Assumes nothing.
use Rattle.std.specs.Prelude.{Ok, Err}
use mathlib.Core.Path.{◌≡◌, refl, sym, ◌∙◌, ap}
use mathlib.Core.List.{List, [], ◌∷◌, ◌++◌, append-nil}
use Prim.Native.Nat.{ℕ, ◌+◌, ◌*◌, ◌/◌, ◌%◌, ◌≤◌}
use native.Mathlib.Omega.{arith}
use lib.ListN.{length, get_or, take, drop, length-append, take-append-drop, length-drop}
use lib.Seq.{drop_at, drop-cons, drop-drop, take_all}
use lib.Ieee.{Float, binary64}
use lib.Ieee.Bits.{of_bits-fits}
use Rattle.refusals.specs.Refusals.{Checked}
use Rattle.refusals.proofs.Meant.{numbers_finite}
use Rattle.fronts.specs.Finite.{FiniteTo}
use Rattle.score_tables.proofs.Meant.{to_finite}
use Rattle.sheet.specs.File.{Sheet, little_endian, number_bytes, encoded, Finite64, SoundSheet}
use Rattle.sheet.specs.Fields.{labels_in_of, words_in, states_from_of, whole_length_of, numbers_in, transitions_in_of, states_in_of}
use Rattle.sheet.specs.Rows.{Given, Lent, sheet_checked}
use Rattle.sheet.specs.RowsMeaning.{RightHead, RightFile}
use Rattle.sheet.specs.Promise.{Outcome, said, read, answer_by, answer_to, transitions_after, states_after, Promised}
use Rattle.sheet.specs.Files.{sheet_in, Bytes, SheetRoom, RightFilesAreSheets, ReadFrom, ExactlyTheFiles}
use Rattle.sheet.proofs.Bytes.{length_numbers, number_at}
use Rattle.sheet.proofs.Little.{length_bytes, numbers_read, numbers_back, drop_bytes}
use Rattle.sheet.proofs.RowsMeant.{mark_byte, sheets_mean}

-- ---- the fields of an encoded sheet

module _ (s : Sheet) (sound : SoundSheet s) where
  body : List ℕ
  body = number_bytes s.transitions ++ number_bytes s.states

  -- L and T
  pub labels_back : labels_in_of (encoded s) ≡ s.labels
  unfolding encoded little_endian
  labels_back = omega (arith, sound.labels_in.high)

  pub words_back : words_in (encoded s) ≡ s.words
  unfolding encoded little_endian
  words_back = omega (arith, sound.words_in_lem.high)

  body_back : drop 8 (encoded s) ≡ body
  unfolding encoded little_endian body
  body_back = refl

  pub transitions_back : transitions_in_of (encoded s) ≡ s.transitions
  unfolding transitions_in_of body
  transitions_back =
      rw (labels_back, ← sound.all_transitions, body_back) (numbers_read s.transitions (number_bytes s.states) sound.finite_transitions.binary)

  pub states_back : states_in_of (encoded s) ≡ s.states
  unfolding states_in_of body
  states_back =
      rw (words_back, labels_back, ← sound.all_states, ← sound.all_transitions, ← drop-drop (8 * length s.transitions) 8 (encoded s), body_back, drop_at (number_bytes s.transitions) (number_bytes s.states) (8 * length s.transitions) (length_bytes s.transitions), ← append-nil (number_bytes s.states))
      (numbers_read s.states [] sound.finite_states.binary)

  -- its length
  pub long : length (encoded s) ≡ 8 + 8 * (s.labels * s.labels + s.words * s.labels)
  unfolding encoded little_endian
  long =
      omega (arith, length-append (number_bytes s.transitions) (number_bytes s.states), length_bytes s.transitions, length_bytes s.states, sound.all_transitions, sound.all_states)

  length_back : length (encoded s) ≡ whole_length_of (encoded s)
  length_back = rw (words_back, labels_back) long

  -- ---- nothing is refused in it

  finite_back : (table : List Float) (n : ℕ) → length table ≡ n → Finite64 table → FiniteTo table n
  finite_back table n e f i l = f.finite64 i (omega arith)

  head_back : RightHead (encoded s)
  unfolding encoded little_endian
  head_back = record { whole = omega arith; marked = refl; version = refl }

  pub right_file : RightFile (encoded s)
  right_file = record {
    in_bounds = record { head = head_back; labels = rw labels_back sound.labels_in; words = rw words_back sound.words_in_lem };
    right_length = length_back;
    finite_transitions = rw (transitions_back, labels_back) (finite_back _ _ sound.all_transitions sound.finite_transitions);
    finite_states = rw (states_back, words_back, labels_back) (finite_back _ _ sound.all_states sound.finite_states);
  }

  pub file_accepted : (before : Lent) → SheetRoom s before → sheet_checked (record { bytes = encoded s }) before ≡ Ok tt
  file_accepted before room = (sheets_mean (record { bytes = encoded s }) before).accepted.1 (right_file, rw (labels_back, words_back) room)

  file_read : (before : Lent) → SheetRoom s before → (outcome : Outcome) → Promised (record { bytes = encoded s }) before outcome → ReadFrom s before outcome
  unfolding answer_to transitions_after states_after
  file_read before room outcome p =
      let h = file_accepted before room in
      record {
        answers = p.answers ∙ rw (h, labels_back, words_back);
        fills_transitions = p.fills_transitions ∙ rw (h, transitions_back);
        fills_states = p.fills_states ∙ rw (h, states_back);
      }

-- ---- bytes in which nothing is refused

module _ (bytes : List ℕ) (all : Bytes bytes) (right : RightFile bytes) where
  -- the eight bytes of head, and the rest
  eight : bytes ≡ get_or bytes 0 0 ∷ get_or bytes 1 0 ∷ get_or bytes 2 0 ∷ get_or bytes 3 0 ∷ get_or bytes 4 0 ∷ get_or bytes 5 0 ∷ get_or bytes 6 0 ∷ get_or bytes 7 0 ∷ drop 8 bytes
  eight =
      let l = right.in_bounds.head.whole in
      drop-cons bytes 0 0 (omega arith)
      ∙ ap (λ (r : List ℕ). get_or bytes 0 0 ∷ r) (drop-cons bytes 1 0 (omega arith)
      ∙ ap (λ (r : List ℕ). get_or bytes 1 0 ∷ r) (drop-cons bytes 2 0 (omega arith)
      ∙ ap (λ (r : List ℕ). get_or bytes 2 0 ∷ r) (drop-cons bytes 3 0 (omega arith)
      ∙ ap (λ (r : List ℕ). get_or bytes 3 0 ∷ r) (drop-cons bytes 4 0 (omega arith)
      ∙ ap (λ (r : List ℕ). get_or bytes 4 0 ∷ r) (drop-cons bytes 5 0 (omega arith)
      ∙ ap (λ (r : List ℕ). get_or bytes 5 0 ∷ r) (drop-cons bytes 6 0 (omega arith)
      ∙ ap (λ (r : List ℕ). get_or bytes 6 0 ∷ r) (drop-cons bytes 7 0 (omega arith))))))))

  -- the tables
  finite_part : (at n : ℕ) → FiniteTo (numbers_in n (drop at bytes)) n → Finite64 (numbers_in n (drop at bytes))
  finite_part at n f =
      let e = length_numbers n (drop at bytes) in
      record { finite64 = λ i l. f i (omega arith); binary = λ i l. rw (number_at bytes at n i (omega arith)) (of_bits-fits binary64 _) }

  pub sound_in : SoundSheet (sheet_in bytes)
  unfolding transitions_in_of states_in_of
  sound_in =
      record {
        labels_in = right.in_bounds.labels;
        words_in_lem = right.in_bounds.words;
        all_transitions = length_numbers _ _;
        all_states = length_numbers _ _;
        finite_transitions = finite_part 8 _ right.finite_transitions;
        finite_states = finite_part (states_from_of bytes) _ right.finite_states;
      }

  -- a table's bytes
  part_in : (at n : ℕ) → at + 8 * n ≤ length bytes → FiniteTo (numbers_in n (drop at bytes)) n → number_bytes (numbers_in n (drop at bytes)) ≡ take (8 * n) (drop at bytes)
  part_in at n l f =
      let table = numbers_in n (drop at bytes) in
      numbers_back n (drop at bytes) (rw (length-drop at bytes) (omega arith)) (drop_bytes at bytes (omega arith) all)
      (λ i b. numbers_finite table n (to_finite table n f) i b)

  body_in : number_bytes (transitions_in_of bytes) ++ number_bytes (states_in_of bytes) ≡ drop 8 bytes
  unfolding transitions_in_of states_in_of
  body_in =
      let n = labels_in_of bytes * labels_in_of bytes in
      let m = words_in bytes * labels_in_of bytes in
      let e = right.right_length in
      let d = length-drop (8 + 8 * n) bytes in
      rw (part_in 8 n (omega arith) right.finite_transitions, part_in (8 + 8 * n) m (omega arith) right.finite_states, take_all (8 * m) (drop (8 + 8 * n) bytes) (omega arith), ← drop-drop (8 * n) 8 bytes)
      (take-append-drop (8 * n) (drop 8 bytes))

  pub encoded_in : encoded (sheet_in bytes) ≡ bytes
  unfolding encoded little_endian
  encoded_in =
      let h = right.in_bounds.head in
      let l = h.whole in
      let b5 = all.below 5 (omega arith) in
      let b6 = all.below 6 (omega arith) in
      let b7 = all.below 7 (omega arith) in
      let e0 : get_or bytes 0 0 ≡ 84 = mark_byte bytes 0 (omega arith) h.marked in
      let e1 : get_or bytes 1 0 ≡ 76 = mark_byte bytes 1 (omega arith) h.marked in
      let e2 : get_or bytes 2 0 ≡ 71 = mark_byte bytes 2 (omega arith) h.marked in
      let e3 : get_or bytes 3 0 ≡ 1 = omega (arith, h.version) in
      let e4 : get_or bytes 4 0 ≡ 0 = omega (arith, h.version) in
      let e5 : labels_in_of bytes % 256 ≡ get_or bytes 5 0 = omega arith in
      let e6 : words_in bytes % 256 ≡ get_or bytes 6 0 = omega arith in
      let e7 : words_in bytes / 256 % 256 ≡ get_or bytes 7 0 = omega arith in
      sym (eight ∙ rw (e0, e1, e2, e3, e4, e5, e6, e7, body_in))

pub right_files : RightFilesAreSheets
right_files bytes all = (
  λ right. (sheet_in bytes, sound_in bytes all right, sym (encoded_in bytes all right)),
  λ w. rw w.2 (right_file w.0 w.1),
)

-- what was read is the sheet that the bytes say
read_in : (bytes : List ℕ) (before : Lent) (outcome : Outcome) → sheet_checked (record { bytes = bytes }) before ≡ Ok tt → Promised (record { bytes = bytes }) before outcome → ReadFrom (sheet_in bytes) before outcome
unfolding answer_to transitions_after states_after
read_in bytes before outcome h p =
    record { answers = p.answers ∙ rw h; fills_transitions = p.fills_transitions ∙ rw h; fills_states = p.fills_states ∙ rw h }

-- what is read was accepted
pub accepted_if_read : (given : Given) (before : Lent) (labels words : ℕ) → answer_to given before ≡ read labels words → sheet_checked given before ≡ Ok tt
unfolding answer_to
accepted_if_read given before labels words h = go (sheet_checked given before) h
  where
    go : (c : Checked) → answer_by c given.bytes ≡ read labels words → c ≡ Ok tt
    go (Ok _) e = refl
    go (Err why) e = let z : ◌≡◌ {A = ℕ} 0 1 = cc in absurd (omega arith)

only_files : (given : Given) → Bytes given.bytes → (before : Lent) (outcome : Outcome) → Promised given before outcome → (labels words : ℕ) → said outcome.answer ≡ read labels words → (s : Sheet) × SoundSheet s × (given.bytes ≡ encoded s) × SheetRoom s before × ReadFrom s before outcome
only_files given all before outcome p labels words e =
    let h = accepted_if_read given before labels words (sym p.answers ∙ e) in
    let a = (sheets_mean given before).accepted.0 h in (
      sheet_in given.bytes,
      sound_in given.bytes all a.0,
      sym (encoded_in given.bytes all a.0),
      a.1,
      read_in given.bytes before outcome h p,
    )

pub exactly_the_files : ExactlyTheFiles
exactly_the_files = record { every = file_read; only = only_files }
