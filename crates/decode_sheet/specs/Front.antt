-- How much of a file decides its line. What is claimed; the proof is in proofs/Front.
use Rattle.std.specs.Prelude.{◌≡◌, List, ℕ, ◌<◌, take}
use Rattle.decode_sheet.specs.Program.{printed_line}

-- the longest sheet, L = 32 and T = 128: 8 + 8·(32·32 + 128·32) bytes
abbrev pub longest_sheet : ℕ
longest_sheet = 40968

-- one byte more than the longest sheet, or any more, and what follows them in the file changes nothing of its line
abbrev pub FrontDecides : Type 0
FrontDecides = (n : ℕ) → longest_sheet < n → (file : List ℕ) → printed_line (take n file) ≡ printed_line file

-- and the longest sheet's bytes alone do not: there is a file whose first 40,968 bytes have another line than the file
abbrev pub LessDoesNot : Type 0
LessDoesNot = (file : List ℕ) × (printed_line (take longest_sheet file) ≡ printed_line file → ⊥)
