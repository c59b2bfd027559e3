-- From what the reader promises of the bytes to what is promised of the line. Assumes nothing.
use Rattle.std.specs.Prelude.{Ok, Err}
use mathlib.Core.Path.{◌≡◌, sym, ◌∙◌, ap}
use mathlib.Core.List.{List, [], ◌++◌, append_assoc, append-nil}
use Prim.Native.Nat.{ℕ, ◌*◌, ◌<◌, ◌≤◌}
use native.Mathlib.Omega.{arith}
use lib.ListN.{length, take, drop, length-append}
use lib.Seq.{take_at, length-take-le}
use lib.Ieee.{Float}
use Rattle.refusals.specs.declared.Refusal.{Refusal}
use Rattle.best_path.specs.Scores.{tabled}
use Rattle.best_path.specs.Decoded.{decoded_path, decoded_sum}
use Rattle.score_tables.specs.Sound.{SoundScores}
use Rattle.sheet.specs.Fields.{labels_in_of, words_in, transitions_in_of, states_in_of}
use Rattle.sheet.specs.Rows.{Lent, sheet_checked}
use Rattle.sheet.specs.Promise as reader
use Rattle.sheet.proofs.Meant.{refused_by}
use Rattle.sheet.proofs.Rows.{accepts}
use Rattle.sheet.proofs.RowsMeant.{file_means}
use Rattle.byte_buffers.specs.Stored as buffer
use Rattle.answer_line.specs.Line as line
use Rattle.answer_line.specs.Line.{path_room}
use Rattle.decode_sheet.specs.Answer.{path_line_for, buffer_checked}
use Rattle.decode_sheet.specs.Promise.{answer_to, line_after, Promised}
use Rattle.decode_sheet.proofs.Rows.{Lends, rows, line_means, read_by, transitions_size, states_size, sound_in}

-- the room that is lent of the transitions: none where the line is too short, else all
pub record Chosen (before : List ℕ) (transitions states : List Float) (room : ℕ) : Type 0 where
  pub none : length before < path_room → room ≡ 0
  pub all : path_room ≤ length before → room ≡ length transitions
  pub inside : room ≤ length transitions
  pub long_transitions : 1024 ≤ length transitions
  pub long_states : 4096 ≤ length states

abbrev pub lent : List Float → List Float → ℕ → Lent
lent transitions states room = record { transitions = take room transitions; states = states }

-- the promise, by the two answers
module _ (bytes before : List ℕ) where
  pub promised_refused : (why : Refusal) → buffer_checked bytes (length before) ≡ Err why → Promised (record { bytes = bytes }) before (record { answer = Err why; line = before })
  unfolding answer_to line_after
  promised_refused why h = record { answers = rw h; fills_line = rw h }

  pub promised_path : (size : ℕ) (after : List ℕ) → buffer_checked bytes (length before) ≡ Ok tt → buffer.Written (path_line_for bytes) before size after → Promised (record { bytes = bytes }) before (record { answer = Ok size; line = after })
  unfolding answer_to line_after
  promised_path size after h w = record { answers = rw (h, w.counted); fills_line = rw h w.written }

  -- a line that is accepted has its room
  roomy : buffer_checked bytes (length before) ≡ Ok tt → path_room ≤ length before
  roomy h = ((file_means bytes (line_means (length before))).accepted.0 h).1

-- what a file that is read gives to the decoder
pub record Tables (bytes before : List ℕ) (transitions states : List Float) (room labels words : ℕ) (o : reader.Outcome) : Type 0 where
  pub accepted : buffer_checked bytes (length before) ≡ Ok tt
  pub line_long : path_room ≤ length before
  pub labels_are : labels ≡ labels_in_of bytes
  pub words_are : words ≡ words_in bytes
  pub sound : SoundScores (labels_in_of bytes) (words_in bytes) (transitions_in_of bytes) (states_in_of bytes)
  pub transitions_front : take (labels_in_of bytes * labels_in_of bytes) (o.transitions ++ drop room transitions) ≡ transitions_in_of bytes
  pub states_front : take (words_in bytes * labels_in_of bytes) o.states ≡ states_in_of bytes
  pub transitions_long : labels_in_of bytes * labels_in_of bytes ≤ length (o.transitions ++ drop room transitions)
  pub states_long : words_in bytes * labels_in_of bytes ≤ length o.states

-- a product, its factors by other names
pub counted_as : {n x y a b : ℕ} → n ≡ x * y → x ≡ a → y ≡ b → n ≡ a * b
counted_as e f g = e ∙ rw (f, g)

-- the front of a table that was filled
front : (table rest more : List Float) (n : ℕ) → length table ≡ n → (take n ((table ++ rest) ++ more) ≡ table) × (n ≤ length ((table ++ rest) ++ more))
front table rest more n e =
    (rw (append_assoc table rest more) (take_at table (rest ++ more) n e), rw (append_assoc table rest more, length-append table (rest ++ more)) (omega arith))

module _ (bytes before : List ℕ) (transitions states : List Float) (room : ℕ) (chosen : Chosen before transitions states room) where
  lends : Lends (length before) (lent transitions states room)
  lends =
      let e = length-take-le room transitions chosen.inside in
      record {
        none = λ h. omega (arith, chosen.none h);
        enough = λ h. omega (arith, chosen.all h, chosen.long_transitions);
        states = chosen.long_states;
      }

  checked : sheet_checked (record { bytes = bytes }) (lent transitions states room) ≡ buffer_checked bytes (length before)
  checked = rows bytes (length before) (lent transitions states room) lends

  pub read_refused : (o : reader.Outcome) → reader.Promised (record { bytes = bytes }) (lent transitions states room) o → (why : Refusal) → o.answer ≡ Err why → Promised (record { bytes = bytes }) before (record { answer = Err why; line = before })
  unfolding reader.answer_to
  read_refused o p why h = promised_refused bytes before why (sym checked ∙ (refused_by bytes _ _ p.answers why.number why.place).0 (ap reader.said h))

  pub read_tables : (o : reader.Outcome) → reader.Promised (record { bytes = bytes }) (lent transitions states room) o → (labels words : ℕ) → o.answer ≡ Ok (record { labels = labels; words = words }) → Tables bytes before transitions states room labels words o
  unfolding reader.answer_to reader.transitions_after reader.states_after
  read_tables o p labels words h =
      let r = read_by bytes (sheet_checked (record { bytes = bytes }) (lent transitions states room)) labels words (rw h at p.answers) in
      let sound = sound_in bytes (lent transitions states room) (accepts bytes (lent transitions states room) r.accepted) in
      let t : o.transitions ≡ transitions_in_of bytes ++ drop (length (transitions_in_of bytes)) (take room transitions) = p.fills_transitions ∙ rw r.accepted in
      let s : o.states ≡ states_in_of bytes ++ drop (length (states_in_of bytes)) states = p.fills_states ∙ rw r.accepted in
      let m = labels_in_of bytes * labels_in_of bytes in
      let n = words_in bytes * labels_in_of bytes in
      let f = front (transitions_in_of bytes) (drop (length (transitions_in_of bytes)) (take room transitions)) (drop room transitions) m (transitions_size bytes) in
      let g = front (states_in_of bytes) (drop (length (states_in_of bytes)) states) [] n (states_size bytes) in
      record {
        accepted = sym checked ∙ r.accepted;
        line_long = roomy bytes before (sym checked ∙ r.accepted);
        labels_are = r.labels_are;
        words_are = r.words_are;
        sound = sound;
        transitions_front = rw t f.0;
        states_front = rw (s, ← append-nil (states_in_of bytes ++ drop (length (states_in_of bytes)) states)) g.0;
        transitions_long = rw t f.1;
        states_long = rw (s, ← append-nil (states_in_of bytes ++ drop (length (states_in_of bytes)) states)) g.1;
      }

-- the fronts of the tables that were read, by how many entries they have
module _ {bytes before : List ℕ} {transitions states : List Float} {room labels words : ℕ} {o : reader.Outcome} (t : Tables bytes before transitions states room labels words o) {size count : ℕ} (size_is : size ≡ labels_in_of bytes * labels_in_of bytes) (count_is : count ≡ words_in bytes * labels_in_of bytes) where
  pub fronts_sound : SoundScores labels words (take size (o.transitions ++ drop room transitions)) (take count o.states)
  fronts_sound = rw (size_is, count_is, t.transitions_front, t.states_front, t.labels_are, t.words_are) t.sound

  pub promised_line : {n : ℕ} {after : List ℕ} →
      (let s = tabled labels (take size (o.transitions ++ drop room transitions)) (take count o.states) in buffer.Written (line.path_line_of (decoded_sum s words) (decoded_path s words)) before n after) →
      Promised (record { bytes = bytes }) before (record { answer = Ok n; line = after })
  unfolding path_line_for
  promised_line w =
      promised_path bytes before _ _ t.accepted (rw (size_is, count_is, t.transitions_front, t.states_front, t.labels_are, t.words_are) at w)
