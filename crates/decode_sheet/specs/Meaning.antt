-- What `decode_sheet` answers and what is printed, in plain terms, of whatever satisfies their promises: each refusal exactly when document 01 gives it. The proofs are in proofs/Meant.
use Rattle.std.specs.Prelude.{◌≡◌, List, ℕ, ◌^◌, ◌≤◌, ◌<◌, length, take, Float}
use Rattle.refusals.specs.Refusals.{numbered}
use Rattle.refusals.specs.Said.{accepted, refused}
use Rattle.sheet.specs.RowsMeaning.{Meaning}
use Rattle.answer_line.specs.Line.{path_line_of, refused_line_of, path_room}
use Rattle.answer_line.specs.Claims.{Sayable}
use Rattle.decode_sheet.specs.Promise.{Given, Outcome, said, Promised}
use Rattle.decode_sheet.specs.Program.{Printed}

-- the call: 2 does not apply where the lent line has room for the longest
abbrev pub AnsweringMeans : Type 0
AnsweringMeans =
    (given : Given) (before : List ℕ) (outcome : Outcome) → Promised given before outcome →
    Meaning (λ number place. said outcome.answer ≡ refused (numbered number place)) ((size : ℕ) × (said outcome.answer ≡ accepted size)) given.bytes (path_room ≤ length before)

-- "`REFUSED`, number, place": a line that says this refusal
pub record SaysRefused (line : List ℕ) (number place : ℕ) : Type 0 where
  pub number_in : number < 2 ^ 64
  pub place_in : place < 2 ^ 64
  pub says : line ≡ refused_line_of number place

-- "`PATH`, the sum's bits .., labels": a line that says this path with this sum
pub record SaysPath (line : List ℕ) (sum : Float) (labels : List ℕ) : Type 0 where
  pub sayable : Sayable sum labels
  pub says : line ≡ path_line_of sum labels

-- the program: the line is what was written, the first so many bytes of the buffer. It lends room enough, so 2 never applies
abbrev pub PrintingMeans : Type 0
PrintingMeans =
    (bytes before : List ℕ) (size : ℕ) (after : List ℕ) → Printed bytes before size after →
    Meaning (λ number place. SaysRefused (take size after) number place) ((sum : Float) × (labels : List ℕ) × SaysPath (take size after) sum labels) bytes (Unit {0})
