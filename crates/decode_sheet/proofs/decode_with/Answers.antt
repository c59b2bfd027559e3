-- `decode_sheet::decode_with` meets its contract. Assumes nothing.
use mathlib.Core.Path.{◌≡◌, sym}
use Prim.Native.Nat.{ℕ}
use native.Mathlib.Omega.{arith}
use Rattle.std.specs.Prelude.{Ok}
use Rattle.decode_sheet.proofs.Rows.{transitions_size, states_size}
use Rattle.decode_sheet.proofs.Join.{Chosen, Tables, counted_as, read_refused, read_tables, fronts_sound, promised_line}
use Rattle.decode_sheet.proofs.decode_with.Goals.{After-read_sheet, then-line-lt-PATH_ROOM, else-line-lt-PATH_ROOM}
use Rattle.decode_sheet.proofs.decode_with.Goals as goal

-- the room that is lent, by the line's length
chosen : (c : After-read_sheet) →
    let a = c.args in
    Chosen a.line.now a.transitions.now a.states.now c.if-line-lt-PATH_ROOM.room
chosen c =
    let long = c.requires in
    elim c.if-line-lt-PATH_ROOM.branch [
      | then-line-lt-PATH_ROOM w ↦
          record {
            none = λ h. w.room-is;
            all = λ h. absurd (omega (arith, w.if-line-lt-PATH_ROOM.true));
            inside = omega (arith, w.room-is);
            long_transitions = long.0;
            long_states = long.1;
          }
      | else-line-lt-PATH_ROOM w ↦
          record {
            none = λ h. absurd (omega (arith, w.if-line-lt-PATH_ROOM.false));
            all = λ h. w.room-is;
            inside = omega (arith, w.room-is);
            long_transitions = long.0;
            long_states = long.1;
          }
    ]

-- what the file that was read gives
tables : (c : After-read_sheet) {labels words : ℕ} → c.read_sheet.result ≡ Ok (record { labels = labels; words = words }) →
    let a = c.args in
    Tables a.bytes.now a.line.now a.transitions.now a.states.now c.if-line-lt-PATH_ROOM.room labels words (record { answer = c.read_sheet.result; transitions = c.read_sheet.new.transitions; states = c.read_sheet.new.states })
tables c e = read_tables _ _ _ _ _ (chosen c) _ c.read_sheet.ensures _ _ e

pub slice_bounds-write_path-end : goal.slice_bounds-write_path-end
slice_bounds-write_path-end c =
    let t = tables (goal.at.slice_bounds-write_path-end c).After-read_sheet c.in-Ok.is in
    rw (counted_as c.entries-size.ensures t.labels_are t.labels_are) t.transitions_long

pub slice_bounds-write_path-end-in-Ok : goal.slice_bounds-write_path-end-in-Ok
slice_bounds-write_path-end-in-Ok c =
    let t = tables (goal.at.slice_bounds-write_path-end-in-Ok c).After-read_sheet c.in-Ok.is in
    rw (counted_as c.entries-size.ensures t.labels_are t.labels_are, t.transitions_front) (sym (transitions_size _))

pub slice_bounds-write_path-end-in-Ok-2 : goal.slice_bounds-write_path-end-in-Ok-2
slice_bounds-write_path-end-in-Ok-2 c =
    let t = tables (goal.at.slice_bounds-write_path-end-in-Ok-2 c).After-read_sheet c.in-Ok.is in
    rw (counted_as c.entries-count.ensures t.words_are t.labels_are) t.states_long

pub slice_bounds-write_path-end-in-Ok-3 : goal.slice_bounds-write_path-end-in-Ok-3
slice_bounds-write_path-end-in-Ok-3 c =
    let t = tables (goal.at.slice_bounds-write_path-end-in-Ok-3 c).After-read_sheet c.in-Ok.is in
    rw (counted_as c.entries-count.ensures t.words_are t.labels_are, t.states_front) (sym (states_size _))

pub write_path-requires : goal.write_path-requires
write_path-requires c =
    let t = tables (goal.at.write_path-requires c).After-read_sheet c.in-Ok.is in
    record {
      sound_scores = fronts_sound t (counted_as c.entries-size.ensures t.labels_are t.labels_are) (counted_as c.entries-count.ensures t.words_are t.labels_are);
      path_room_in_bounds = t.line_long;
    }

pub returns-in-Err : goal.returns-in-Err
returns-in-Err c =
    read_refused _ _ _ _ _ (chosen (goal.at.returns-in-Err c).After-read_sheet) _ c.read_sheet.ensures _ c.in-Err.is

pub returns-in-Ok : goal.returns-in-Ok
returns-in-Ok c =
    let t = tables (goal.at.returns-in-Ok c).After-read_sheet c.in-Ok.is in
    promised_line t (counted_as c.entries-size.ensures t.labels_are t.labels_are) (counted_as c.entries-count.ensures t.words_are t.labels_are) c.write_path.ensures
