-- What the program `decode` prints of the bytes that it read. Assumes nothing.
use Rattle.std.specs.Prelude.{◌≡◌, List, ◌++◌, ℕ, length, drop, Ok, Err}
use Rattle.refusals.specs.Refusals.{Checked}
use Rattle.best_path.specs.Scores.{tabled}
use Rattle.best_path.specs.Decoded.{decoded_path, decoded_sum}
use Rattle.sheet.specs.File.{Sheet, encoded, SoundSheet}
use Rattle.answer_line.specs.Line.{path_line_of, refused_line_of, path_room}
use Rattle.decode_sheet.specs.Answer.{path_line_for, buffer_checked}

-- "prints one line: `PATH` ..; or `REFUSED` .."
abbrev pub line_said : Checked → List ℕ → List ℕ
line_said (Ok _) line = line
line_said (Err why) line = refused_line_of why.number why.place

-- the program lends room for the longest line
unfoldable pub printed_line : List ℕ → List ℕ
printed_line bytes = line_said (buffer_checked bytes path_room) (path_line_for bytes)

-- the file of every sound sheet is answered by the line of its decoded path and sum. The proof is in proofs/Prints
abbrev pub PrintsThePath : Type 0
PrintsThePath =
    (s : Sheet) → SoundSheet s →
    let scores = tabled s.labels s.transitions s.states in
    printed_line (encoded s) ≡ path_line_of (decoded_sum scores s.words) (decoded_path scores s.words)

-- the promise: the line's length, and the lent buffer with the line in front and its tail unchanged
pub record Printed (bytes before : List ℕ) (size : ℕ) (after : List ℕ) : Type 0 where
  pub counted : size ≡ length (printed_line bytes)
  pub written : after ≡ printed_line bytes ++ drop (length (printed_line bytes)) before

-- no two different outcomes satisfy it. The proof is in proofs/Once
abbrev pub OnlyOnePrinted : Type 0
OnlyOnePrinted =
    (bytes before : List ℕ) (m n : ℕ) (p q : List ℕ) → Printed bytes before m p → Printed bytes before n q → (m ≡ n) × (p ≡ q)
