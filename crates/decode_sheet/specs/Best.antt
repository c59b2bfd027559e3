-- Demand 3 of what `decode_sheet` writes and of what is printed: a path's line is written exactly for the files of sound sheets, and its path is best. The proofs are in proofs/Best.
use Rattle.std.specs.Prelude.{◌≡◌, List, ℕ, ◌≤◌, length, take, Float}
use Rattle.refusals.specs.Said.{accepted}
use Rattle.best_path.specs.Scores.{Scores, tabled}
use Rattle.best_path.specs.BestPath.{BestPath}
use Rattle.sheet.specs.File.{Sheet, encoded, SoundSheet}
use Rattle.sheet.specs.Files.{Bytes}
use Rattle.answer_line.specs.Line.{path_room}
use Rattle.decode_sheet.specs.Promise.{Given, Outcome, said, Promised}
use Rattle.decode_sheet.specs.Program.{Printed}
use Rattle.decode_sheet.specs.Meaning.{SaysPath}

-- the scores of a sheet
abbrev pub scores_of_sheet : Sheet → Scores
scores_of_sheet s = tabled s.labels s.transitions s.states

-- a line that says a best path of the sheet, with the path's rounded sum
pub record SaysBest (s : Sheet) (line : List ℕ) : Type 0 where
  pub sum : Float
  pub labels : List ℕ
  pub says : SaysPath line sum labels
  pub best : BestPath (scores_of_sheet s) s.words labels sum

-- what was printed of the bytes
pub record PathsPrinted (bytes line : List ℕ) : Type 0 where
  -- the file of every sound sheet is answered by the line of a best path
  pub every : (s : Sheet) → SoundSheet s → bytes ≡ encoded s → SaysBest s line
  -- nothing else is answered by a path, and the path that the line says is best
  pub only : Bytes bytes → (sum : Float) (labels : List ℕ) → SaysPath line sum labels → (s : Sheet) × SoundSheet s × (bytes ≡ encoded s) × BestPath (scores_of_sheet s) s.words labels sum

abbrev pub PrintedPathsAreBest : Type 0
PrintedPathsAreBest = (bytes before : List ℕ) (size : ℕ) (after : List ℕ) → Printed bytes before size after → PathsPrinted bytes (take size after)

-- what `decode_sheet` answers
pub record PathsAnswered (bytes before : List ℕ) (outcome : Outcome) : Type 0 where
  pub every : (s : Sheet) → SoundSheet s → bytes ≡ encoded s → path_room ≤ length before → (size : ℕ) × (said outcome.answer ≡ accepted size) × SaysBest s (take size outcome.line)
  pub only : Bytes bytes → (size : ℕ) → said outcome.answer ≡ accepted size → (s : Sheet) × SoundSheet s × (bytes ≡ encoded s) × SaysBest s (take size outcome.line)

abbrev pub AnsweredPathsAreBest : Type 0
AnsweredPathsAreBest = (given : Given) (before : List ℕ) (outcome : Outcome) → Promised given before outcome → PathsAnswered given.bytes before outcome
