-- What document 01 says of a sheet's bytes: the line of its path, and the rows of refusals. Assumes nothing.
use Rattle.std.specs.Prelude.{List, ℕ}
use Rattle.refusals.specs.Refusals.{Checked, refuse}
use Rattle.refusals.specs.Tables.{short}
use Rattle.best_path.specs.Scores.{Scores, tabled}
use Rattle.best_path.specs.Decoded.{decoded_path, decoded_sum}
use Rattle.sheet.specs.Fields.{labels_in_of, words_in, transitions_in_of, states_in_of}
use Rattle.sheet.specs.Rows.{file_checked}
use Rattle.answer_line.specs.Line.{path_line_of, path_room}

-- the score tables that the bytes hold
abbrev pub scores_in : List ℕ → Scores
scores_in bytes = tabled (labels_in_of bytes) (transitions_in_of bytes) (states_in_of bytes)

-- the line of its decoded path and sum
unfoldable pub path_line_for : List ℕ → List ℕ
path_line_for bytes = path_line_of (decoded_sum (scores_in bytes) (words_in bytes)) (decoded_path (scores_in bytes) (words_in bytes))

-- 2 | "a lent buffer too short": the line has no room for the longest | 0
abbrev pub line_short : ℕ → Checked
line_short room = refuse 2 0 (short room path_room)

-- the rows of the file, 2 for the lent line
abbrev pub buffer_checked : List ℕ → ℕ → Checked
buffer_checked bytes room = file_checked bytes (line_short room)
