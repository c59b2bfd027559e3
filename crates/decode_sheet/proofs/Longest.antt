-- The bytes of the longest sheet do not decide the line of a file that begins with them: with one byte more it is refused. Assumes nothing.
use Rattle.std.specs.Prelude.{Ok, Err}
use mathlib.Core.Path.{◌≡◌, sym, ◌∙◌, ap}
use mathlib.Core.List.{List, [], ◌∷◌, ◌++◌}
use Prim.Native.Nat.{ℕ, ◌<◌}
use native.Mathlib.Omega.{arith}
use lib.ListN.{length, replicate, length-replicate, get_or-replicate, length-append}
use lib.Seq.{take_at}
use lib.Ieee.{Float, nan, fits}
use Rattle.refusals.specs.Refusals.{Checked, refused_at, or_next_of}
use Rattle.sheet.specs.File.{Sheet, encoded, Finite64, SoundSheet}
use Rattle.sheet.proofs.Files.{long}
use Rattle.answer_line.specs.Line.{path_line_of, path_room}
use Rattle.answer_line.proofs.OneSaying.{one_saying}
use Rattle.sheet.proofs.Rows.{head_checked}
use Rattle.decode_sheet.specs.Answer.{path_line_for}
use Rattle.decode_sheet.specs.Program.{line_said, printed_line}
use Rattle.decode_sheet.specs.Front.{longest_sheet, LessDoesNot}
use Rattle.decode_sheet.proofs.Prints.{prints_the_path}
use Rattle.decode_sheet.proofs.Front.{long_file}
use Rattle.binary64.specs.Numbers.{nought}

noughts : (n : ℕ) → Finite64 (replicate n nought)
unfolding fits
noughts n =
    let e = length-replicate n nought in
    record { finite64 = λ i l. rw (get_or-replicate n i nought nan (rw e at l)) tt; binary = λ i l. rw (get_or-replicate n i nought nan (rw e at l)) tt }

-- a sheet with L = 32 and T = 128
largest : Sheet
largest = record { labels = 32; words = 128; transitions = replicate 1024 nought; states = replicate 4096 nought }

largest_sound : SoundSheet largest
unfolding largest
largest_sound = record {
  labels_in = record { low = omega arith; high = omega arith };
  words_in_lem = record { low = omega arith; high = omega arith };
  all_transitions = length-replicate 1024 nought;
  all_states = length-replicate 4096 nought;
  finite_transitions = noughts 1024;
  finite_states = noughts 4096;
}

largest_long : length (encoded largest) ≡ longest_sheet
unfolding largest
largest_long = long largest largest_sound

-- what the head or 10 refuses is no path's line
refused_apart : (c : Checked) (sum : Float) (labels text : List ℕ) → path_line_of sum labels ≡ line_said (or_next_of c (refused_at 10 0)) text → ⊥
unfolding or_next_of
refused_apart (Ok _) sum labels text e = one_saying.either sum labels 10 0 e
refused_apart (Err why) sum labels text e = one_saying.either sum labels why.number why.place e

-- a longer file is refused, and its front is not
longer_apart : (s : Sheet) → SoundSheet s → (file : List ℕ) → longest_sheet < length file → printed_line (encoded s) ≡ printed_line file → ⊥
unfolding printed_line
longer_apart s sound file h e =
    refused_apart (head_checked file) _ _ (path_line_for file)
    (sym (prints_the_path s sound) ∙ e ∙ ap (λ (c : Checked). line_said c (path_line_for file)) (long_file file path_room (omega arith) h))

pub less_does_not : LessDoesNot
less_does_not = (
  encoded largest ++ (0 ∷ []),
  λ e.
      longer_apart largest largest_sound (encoded largest ++ (0 ∷ [])) (omega (arith, largest_long, length-append (encoded largest) (0 ∷ [])))
      (rw (take_at (encoded largest) (0 ∷ []) longest_sheet largest_long) at e),
)
