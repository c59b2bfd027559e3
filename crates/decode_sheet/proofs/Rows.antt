-- The rows of a sheet that is decoded into a line, by way of the reader's rows over tables with room for every sheet. Assumes nothing.
use Rattle.std.specs.Prelude.{Ok, Err}
use mathlib.Core.Path.{◌≡◌, refl, ap}
use mathlib.Core.Bool.{Bool, true, false}
use mathlib.Core.List.{List}
use Prim.Native.Nat.{ℕ, ◌*◌, ◌<◌, ◌≤◌}
use native.Mathlib.Nat.{mul-le-mul}
use native.Mathlib.Omega.{arith}
use borrow.Author.Tests.{lt-ltb, le-ltb, ltb-true, ltb-false}
use lib.Dec.{ltb}
use lib.ListN.{length}
use Rattle.refusals.specs.Refusals.{Checked, refuse}
use Rattle.refusals.specs.Tables.{short}
use Rattle.refusals.proofs.Laws.{passes}
use Rattle.score_tables.specs.Rows.{scores_short}
use Rattle.score_tables.specs.Sound.{LabelsIn, WordsIn, SoundScores}
use Rattle.score_tables.proofs.Laws.{all_finite}
use Rattle.score_tables.specs.Meaning.{Row}
use Rattle.score_tables.proofs.Order.{row}
use Rattle.sheet.specs.Fields.{labels_in_of, words_in, transitions_in_of, states_in_of}
use Rattle.sheet.specs.Rows.{Lent, tables_short, sheet_checked}
use Rattle.refusals.proofs.Said.{same_given}
use Rattle.sheet.specs.Promise.{LabelsAndWords, read, answer_by}
use Rattle.sheet.proofs.Bytes.{length_numbers}
use Rattle.sheet.proofs.Rows.{Accepts}
use Rattle.sheet.proofs.RowsMeant.{same_file}
use Rattle.answer_line.specs.Line.{path_room}
use Rattle.decode_sheet.specs.Answer.{line_short, buffer_checked}

-- the room of the tables that are lent: none for a line that is too short
pub record Lends (room : ℕ) (before : Lent) : Type 0 where
  pub none : room < path_room → length before.transitions ≡ 0
  pub enough : path_room ≤ room → 1024 ≤ length before.transitions
  pub states : 4096 ≤ length before.states

module _ (bytes : List ℕ) (room : ℕ) (before : Lent) (lends : Lends room before) where
  two_row : LabelsIn (labels_in_of bytes) → WordsIn (words_in bytes) → scores_short (labels_in_of bytes) (words_in bytes) before.transitions before.states ≡ refuse 2 0 (short room path_room)
  two_row l w = go (ltb room path_room) refl
    where
      go : (b : Bool) → ltb room path_room ≡ b → scores_short (labels_in_of bytes) (words_in bytes) before.transitions before.states ≡ refuse 2 0 (short room path_room)
      go true e =
          let h : length before.transitions < labels_in_of bytes * labels_in_of bytes = omega (arith, lends.none (ltb-true room path_room e), mul-le-mul l.low l.low) in
          rw (lt-ltb _ _ h, e)
      go false e =
          let h : labels_in_of bytes * labels_in_of bytes ≤ length before.transitions = omega (arith, lends.enough (ltb-false room path_room e), mul-le-mul l.high l.high) in
          let k : words_in bytes * labels_in_of bytes ≤ length before.states = omega (arith, lends.states, mul-le-mul w.high l.high) in
          rw (le-ltb _ _ h, le-ltb _ _ k, e)

  -- the reader's rows are the line's
  pub rows : sheet_checked (record { bytes = bytes }) before ≡ buffer_checked bytes room
  rows = same_file bytes (tables_short bytes before) (line_short room) (λ b. two_row b.labels b.words)

-- 2 does not apply where the line has room for the longest
pub line_means : (room : ℕ) → Row (line_short room) 2 (path_room ≤ room)
line_means room = row 2 _ (λ h. ltb-false room path_room (passes 2 0 _ h)) (λ l. le-ltb room path_room l)

-- ---- what the reader answers

pub record ReadBy (bytes : List ℕ) (c : Checked) (labels words : ℕ) : Type 0 where
  pub accepted : c ≡ Ok tt
  pub labels_are : labels ≡ labels_in_of bytes
  pub words_are : words ≡ words_in bytes

pub read_by : (bytes : List ℕ) (c : Checked) (labels words : ℕ) → read labels words ≡ answer_by c bytes → ReadBy bytes c labels words
read_by bytes (Ok _) labels words h =
    let e = same_given h in
    record { accepted = refl; labels_are = ap (λ (z : LabelsAndWords). z.labels) e; words_are = ap (λ (z : LabelsAndWords). z.words) e }
read_by bytes (Err why) labels words h = let z : ◌≡◌ {A = ℕ} 0 1 = cc in absurd (omega arith)

-- how many numbers a file's tables have
pub transitions_size : (bytes : List ℕ) → length (transitions_in_of bytes) ≡ labels_in_of bytes * labels_in_of bytes
unfolding transitions_in_of
transitions_size bytes = length_numbers _ _

pub states_size : (bytes : List ℕ) → length (states_in_of bytes) ≡ words_in bytes * labels_in_of bytes
unfolding states_in_of
states_size bytes = length_numbers _ _

-- the tables that an accepted file holds are sound
pub sound_in : (bytes : List ℕ) (before : Lent) → Accepts bytes before → SoundScores (labels_in_of bytes) (words_in bytes) (transitions_in_of bytes) (states_in_of bytes)
sound_in bytes before a =
    let l = a.sizes_in.room.labels_in in
    let w = a.sizes_in.room.words_in_lem in
    let t = transitions_size bytes in
    let s = states_size bytes in
    record {
      sized =
          record {
            labels_in = l;
            words_in_lem = w;
            room = record { long_transitions = omega arith; long_states = omega arith };
            few_transitions = a.sizes_in.room.few_transitions;
            few_states = a.sizes_in.room.few_states;
          };
      finite = all_finite (labels_in_of bytes) (words_in bytes) (transitions_in_of bytes) (states_in_of bytes) a.transitions_in a.states_in;
    }
