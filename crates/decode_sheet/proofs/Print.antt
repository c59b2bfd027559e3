-- From what is promised of the line to what is printed. Assumes nothing.
use Rattle.std.specs.Prelude.{Ok, Err}
use mathlib.Core.Path.{◌≡◌, refl, sym, ◌∙◌, ap}
use mathlib.Core.List.{List}
use Prim.Native.Nat.{ℕ, ◌≤◌}
use native.Mathlib.Omega.{arith}
use lib.ListN.{length, drop, length-append}
use Rattle.refusals.specs.declared.Refusal.{Refusal}
use Rattle.refusals.specs.Refusals.{Checked}
use Rattle.byte_buffers.specs.Stored as buffer
use Rattle.byte_buffers.specs.Stored.{RoomFor}
use Rattle.answer_line.specs.Line.{refused_line_of, path_room}
use Rattle.answer_line.proofs.Longest.{longest}
use Rattle.refusals.specs.Said.{accepted, refused}
use Rattle.refusals.proofs.Said.{same_refusal}
use Rattle.decode_sheet.specs.Answer.{path_line_for, buffer_checked}
use Rattle.decode_sheet.specs.Promise.{Outcome, answer_by, answer_to, line_after, Promised}
use Rattle.decode_sheet.specs.Program.{printed_line, Printed}

-- the room of a refusal's line
pub refused_room : (number place : ℕ) (l : List ℕ) → length l ≡ path_room → RoomFor (refused_line_of number place) l 0
refused_room number place l e = record { room = omega (arith, longest.refused number place) }

-- what the answer says of the rows
pub path_by : (text : List ℕ) (c : Checked) (size : ℕ) → accepted size ≡ answer_by c text → (c ≡ Ok tt) × (size ≡ length text)
path_by text (Ok _) size h = (refl, cc)
path_by text (Err why) size h = let z : ◌≡◌ {A = ℕ} 0 1 = cc in absurd (omega arith)

pub refused_by : (text : List ℕ) (c : Checked) (why : Refusal) → refused why ≡ answer_by c text → c ≡ Err why
refused_by text (Ok _) why h = let z : ◌≡◌ {A = ℕ} 0 1 = cc in absurd (omega arith)
refused_by text (Err other) why h = ap Err (sym (same_refusal h))

module _ (bytes before : List ℕ) (o : Outcome) (long : length before ≡ path_room) (promise : Promised (record { bytes = bytes }) before o) where
  pub printed_path : (size : ℕ) → o.answer ≡ Ok size → Printed bytes before size o.line
  unfolding printed_line answer_to line_after
  printed_path size h =
      let r = path_by (path_line_for bytes) (buffer_checked bytes (length before)) size (rw h at promise.answers) in
      let a : buffer_checked bytes path_room ≡ Ok tt = rw long at r.0 in
      record { counted = rw a r.1; written = rw a (promise.fills_line ∙ rw r.0) }

  pub printed_refused : (why : Refusal) → o.answer ≡ Err why → (size : ℕ) (after : List ℕ) → buffer.Written (refused_line_of why.number why.place) o.line size after → Printed bytes before size after
  unfolding printed_line answer_to line_after
  printed_refused why h size after w =
      let r = refused_by (path_line_for bytes) (buffer_checked bytes (length before)) why (rw h at promise.answers) in
      let a : buffer_checked bytes path_room ≡ Err why = rw long at r in
      let e : o.line ≡ before = promise.fills_line ∙ rw r in
      record { counted = rw a w.counted; written = rw a (rw e at w.written) }

-- the line is within the buffer
pub printed_within : {bytes before : List ℕ} {size : ℕ} {after : List ℕ} → Printed bytes before size after → size ≤ length after
printed_within {bytes} {before} p =
    rw (p.counted, p.written, length-append (printed_line bytes) (drop (length (printed_line bytes)) before)) (omega arith)
