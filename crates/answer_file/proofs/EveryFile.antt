-- The line of what was read is the line of every file that begins so. Assumes nothing.
use mathlib.Core.Path.{◌≡◌, sym, ◌∙◌, ap}
use mathlib.Core.List.{List}
use Prim.Native.Nat.{ℕ, ◌<◌, ◌≤◌}
use native.Mathlib.Omega.{arith}
use lib.ListN.{length, take, length-take}
use lib.Seq.{take_all}
use Rattle.decode_sheet.specs.Program.{printed_line, Printed}
use Rattle.decode_sheet.specs.Front.{longest_sheet}
use Rattle.decode_sheet.proofs.Front.{front_decides}
use Rattle.decode_sheet.proofs.Print.{printed_within}
use Rattle.answer_file.specs.EveryFile.{PrintedOfEvery}

module _ (buffer : List ℕ) (n : ℕ) {before : List ℕ} {size : ℕ} {after : List ℕ} where
  pub of_every : longest_sheet < length buffer → Printed (take n buffer) before size after → PrintedOfEvery buffer n before size after
  of_every long p file e =
      let same : printed_line (take n buffer) ≡ printed_line file = ap printed_line (sym e) ∙ front_decides (length buffer) long file in
      record { counted = rw same at p.counted; written = rw same at p.written }

  -- the line is within the buffer, since what was read is such a file
  pub every_within : n ≤ length buffer → PrintedOfEvery buffer n before size after → size ≤ length after
  every_within few p = printed_within (p (take n buffer) (take_all (length buffer) (take n buffer) (omega (arith, length-take n buffer))))
