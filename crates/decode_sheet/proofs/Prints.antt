-- The file of every sound sheet is answered by the line of its decoded path and sum. Assumes nothing.
use Rattle.std.specs.Prelude.{Ok}
use mathlib.Core.Path.{◌≡◌}
use Rattle.best_path.specs.Scores.{tabled}
use Rattle.best_path.specs.Decoded.{decoded_path, decoded_sum}
use Rattle.sheet.specs.File.{Sheet, encoded, SoundSheet}
use Rattle.sheet.proofs.Files.{labels_back, words_back, transitions_back, states_back, right_file}
use Rattle.answer_line.specs.Line.{path_line_of, path_room}
use Rattle.decode_sheet.specs.Answer.{path_line_for, buffer_checked}
use Rattle.decode_sheet.specs.Program.{printed_line, PrintsThePath}
use Rattle.decode_sheet.proofs.Meant.{rows_mean}

pub path_line_back : (s : Sheet) → SoundSheet s →
    let scores = tabled s.labels s.transitions s.states in
    path_line_for (encoded s) ≡ path_line_of (decoded_sum scores s.words) (decoded_path scores s.words)
unfolding path_line_for
path_line_back s sound = rw (labels_back s sound, words_back s sound, transitions_back s sound, states_back s sound)

pub prints_the_path : PrintsThePath
unfolding printed_line
prints_the_path s sound =
    let accepted : buffer_checked (encoded s) path_room ≡ Ok tt = (rows_mean (encoded s)).accepted.1 (right_file s sound, tt) in
    rw accepted (path_line_back s sound)
