-- What is enough for a text of n bytes. The proofs are in proofs/InText.
use mathlib.Core.List.{List, flatten}
use Rattle.std.specs.Prelude.{ℕ, ◌+◌, ◌*◌, ◌≤◌, length}
use Rattle.layout.specs.Layout.{Word, Line, text_of, SoundText, sequences}
use Rattle.text_tables.specs.Distinct.{distinct}
use Rattle.text_tables.specs.Tables.{all_words, all_attributes, labels_of, names_of, scales_of, tables}
use Rattle.text_tables.specs.Written.{unwritten, written_text}

-- "instances (n+2)/3, words (n+1)/2, attributes n/2, each table of bytes n"
pub record InText (ss : List (List Word)) (n : ℕ) : Type 0 where
  pub instances : 3 * length ss ≤ n + 2
  pub words : 2 * length (all_words ss) ≤ n + 1
  pub attributes : 2 * length (all_attributes (all_words ss)) ≤ n
  pub label_bytes_of : length (flatten (distinct (labels_of (all_words ss)))) ≤ n
  pub name_bytes_of : length (flatten (distinct (names_of (all_attributes (all_words ss))))) ≤ n
  pub scale_bytes_of : length (flatten (scales_of (all_attributes (all_words ss)))) ≤ n

abbrev pub FitsInText : Type 0
FitsInText = (ls : List Line) → SoundText ls → InText (sequences ls) (length (text_of ls))

-- "For tables from a text of n bytes at most n + 2 bytes are written"
abbrev pub FewWritten : Type 0
FewWritten = (ls : List Line) → SoundText ls → length (written_text (unwritten (tables (sequences ls)))) ≤ length (text_of ls) + 2
