-- `decode_sheet::write_path` meets its contract. Assumes nothing.
use mathlib.Core.Path.{◌≡◌, sym}
use lib.ListN.{take}
use Rattle.best_path.specs.Scores.{tabled}
use Rattle.best_path.specs.Decoded.{decoded_path}
use Rattle.decode_sheet.proofs.Line.{path_length, path_read, line_needs, line_written}
use Rattle.decode_sheet.proofs.write_path.Goals.{After-decode_tables-found}
use Rattle.decode_sheet.proofs.write_path.Goals as goal

-- what stands in the first words of the path's buffer
front : (c : After-decode_tables-found) →
    let a = c.args in
    take a.words c.decode_tables-found.new.path ≡ decoded_path (tabled a.labels a.transitions.now a.states.now) a.words
front c = path_read c.requires.sound_scores _ c.decode_tables-found.ensures.path

pub slice_bounds-path_line-end : goal.slice_bounds-path_line-end
slice_bounds-path_line-end c =
    rw (front (goal.at.slice_bounds-path_line-end c).After-decode_tables-found) (sym (path_length c.requires.sound_scores))

pub path_line-requires : goal.path_line-requires
path_line-requires c =
    let n = line_needs c.requires.sound_scores (front (goal.at.path_line-requires c).After-decode_tables-found) c.decode_tables-found.ensures.sum c.args.line.now c.requires.path_room_in_bounds in
    record { t = n.0; labels_nonzero = n.1.0; room_for = n.1.1 }

pub returns : goal.returns
returns c =
    line_written c.requires.sound_scores (front (goal.at.returns c).After-decode_tables-found) c.decode_tables-found.ensures.sum c.path_line.ensures
