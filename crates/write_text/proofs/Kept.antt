-- What the rows of refusals give the call: accepted tables are sound and the text has room, and either way the promise is kept. Assumes nothing.
use Rattle.std.specs.Prelude.{Ok, Err}
use mathlib.Core.Path.{◌≡◌, sym, ◌∙◌}
use mathlib.Core.List.{◌++◌}
use Prim.Native.Nat.{ℕ, ◌<◌, ◌≤◌}
use native.Mathlib.Omega.{arith}
use lib.ListN.{length}
use Rattle.refusals.specs.declared.Refusal.{Refusal}
use Rattle.refusals.specs.Refusals.{Checked}
use Rattle.refusals.specs.Meaning.{AllAccepted}
use Rattle.refusals.proofs.Laws.{all_accepted}
use Rattle.score_tables.proofs.Order.{parted}
use Rattle.refusal_rows.proofs.Means.{two_means}
use Rattle.layout.specs.Layout.{Bytes}
use Rattle.byte_buffers.specs.Stored.{RoomFor, Put}
use Rattle.byte_buffers.proofs.Laws.{put_line, put_as}
use Rattle.text_tables.specs.Laid.{laid}
use Rattle.text_tables.specs.Written.{written_text}
use Rattle.text_writing.specs.Ready.{SequenceStands, sequence_bytes, each_from}
use Rattle.text_writing.proofs.Laws.{text_parts, room_as}
use Rattle.write_check.specs.Rows.{Unchecked, text_room, read_rows, text_rows, write_checked}
use Rattle.write_check.specs.Sound.{SoundUnwritten}
use Rattle.write_check.proofs.Laws.{sound_rows, sequence_stands}
use Rattle.write_text.specs.Promise.{checked_of, answer_to, text_after, Promised}

-- the call's check accepts
pub accepted_by : (given : Unchecked) (before : Bytes) {r : Checked} → r ≡ checked_of given before → r ≡ Ok tt → checked_of given before ≡ Ok tt
accepted_by given before e h = sym e ∙ h

module _ (given : Unchecked) (before : Bytes) (accepted : checked_of given before ≡ Ok tt) where
  rows : AllAccepted (read_rows given) × AllAccepted (text_rows given (length before))
  unfolding write_checked
  rows = (parted (read_rows given) (text_rows given (length before))).0 (all_accepted (Ok tt) (read_rows given ++ text_rows given (length before)) accepted).1

  pub sound : SoundUnwritten given
  sound = sound_rows given rows.0

  -- the text has room
  pub roomy : length (written_text given.tables) ≤ length before
  roomy = ((two_means (text_room given (length before))).accepted.0 rows.1.0).0

  -- what writing relies on
  pub stands : (i : ℕ) → i < given.tables.instances → SequenceStands given.tables i
  stands = sequence_stands sound

  whole : RoomFor (written_text given.tables) before 0
  whole = record { room = omega (arith, roomy) }

  pub room : RoomFor (each_from (sequence_bytes given.tables) 0 given.tables.instances) before 0
  room = room_as (sym (text_parts given.tables)) whole

  pub written_kept : (end : ℕ) (after : Bytes) → Put (each_from (sequence_bytes given.tables) 0 given.tables.instances) before 0 end after → Promised given before (record { answer = Ok end; text = after })
  unfolding answer_to text_after laid
  written_kept end after p =
      let w = put_line whole (put_as (sym (text_parts given.tables)) p) in
      record { answers = rw (accepted, w.counted); text = rw (accepted, w.written) }

-- a refused call gives its refusal and leaves the text
pub refused_kept : (given : Unchecked) (before : Bytes) (why : Refusal) → checked_of given before ≡ Err why → Promised given before (record { answer = Err why; text = before })
unfolding answer_to text_after
refused_kept given before why h = record { answers = rw h; text = rw h }
