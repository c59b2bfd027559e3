-- What `read_sheet` accepts: exactly the files of sound sheets, with their own tables. What is claimed; the proof is in proofs/Files.
use Rattle.std.specs.Prelude.{◌≡◌, List, ◌++◌, ◌↔◌, ℕ, ◌<◌, length, get_or, drop}
use Rattle.score_tables.specs.Sound.{ScoresRoom}
use Rattle.sheet.specs.Fields.{labels_in_of, words_in, transitions_in_of, states_in_of}
use Rattle.sheet.specs.Rows.{Given, Lent}
use Rattle.sheet.specs.RowsMeaning.{RightFile}
use Rattle.sheet.specs.File.{Sheet, encoded, SoundSheet}
use Rattle.sheet.specs.Promise.{Outcome, said, read, Promised}

-- the sheet that bytes say
abbrev pub sheet_in : List ℕ → Sheet
sheet_in bytes = record {
  labels = labels_in_of bytes;
  words = words_in bytes;
  transitions = transitions_in_of bytes;
  states = states_in_of bytes;
}

-- each is below 256
pub record Bytes (bytes : List ℕ) : Type 0 where
  pub below : (i : ℕ) → i < length bytes → get_or bytes i 0 < 256

-- there is room for the tables of a sheet
abbrev pub SheetRoom : Sheet → Lent → Type 0
SheetRoom s before = ScoresRoom s.labels s.words before.transitions before.states

-- bytes in which nothing is refused are the file of a sound sheet, and the other way round
abbrev pub RightFilesAreSheets : Type 0
RightFilesAreSheets = (bytes : List ℕ) → Bytes bytes → RightFile bytes ↔ ((s : Sheet) × SoundSheet s × (bytes ≡ encoded s))

-- what is read from the file of a sheet: L, T, and its tables in front of the lent ones' tails
pub record ReadFrom (s : Sheet) (before : Lent) (outcome : Outcome) : Type 0 where
  pub answers : said outcome.answer ≡ read s.labels s.words
  pub fills_transitions : outcome.transitions ≡ s.transitions ++ drop (length s.transitions) before.transitions
  pub fills_states : outcome.states ≡ s.states ++ drop (length s.states) before.states

pub record ExactlyTheFiles : Type 0 where
  -- the file of every sound sheet is read
  pub every : (s : Sheet) → SoundSheet s → (before : Lent) → SheetRoom s before → (outcome : Outcome) → Promised (record { bytes = encoded s }) before outcome → ReadFrom s before outcome
  -- and nothing else is
  pub only :
      (given : Given) →
      Bytes given.bytes →
      (before : Lent) (outcome : Outcome) →
      Promised given before outcome →
      (labels words : ℕ) →
      said outcome.answer ≡ read labels words →
      (s : Sheet) × SoundSheet s × (given.bytes ≡ encoded s) × SheetRoom s before × ReadFrom s before outcome
