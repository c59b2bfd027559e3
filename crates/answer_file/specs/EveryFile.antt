-- What is written of a file of which only the front was read. Assumes nothing.
use Rattle.std.specs.Prelude.{◌≡◌, List, [], ℕ, ◌<◌, length, take, IfSome}
use Rattle.std.specs.declared.option.Option.{Option}
use Rattle.decode_sheet.specs.Program.{printed_line, Printed}

-- n bytes of a buffer were read: the line is that of every file that begins so, which ends there or fills the buffer
abbrev pub PrintedOfEvery : List ℕ → ℕ → List ℕ → ℕ → List ℕ → Type 0
PrintedOfEvery buffer n before size after =
    (file : List ℕ) → take (length buffer) file ≡ take n buffer → Printed file before size after

-- the line of a file of which n bytes were read, where its bytes are known: that of all of them; and the empty file's where none
-- was read, since a read failed or there is none
pub record IsLineOf (known : Option (List ℕ)) (n : ℕ) (line : List ℕ) : Type 0 where
  pub some_read : 0 < n → IfSome known (λ file. line ≡ printed_line file)
  pub none_read : n ≡ 0 → line ≡ printed_line []
