-- What the pass that fills the tables has built so far: lists that grow at their end, piece by piece. They come to `tables` (proofs/Built): nothing here has to be believed.
use Rattle.std.specs.Prelude.{◌≡◌, Bool, true, false, cond, List, [], ◌∷◌, ◌++◌, ℕ, length, Float}
use Rattle.layout.specs.Layout.{Bytes, Word, Line, sequences}
use Rattle.scales.specs.Value.{value_of}
use Rattle.text_tables.specs.Distinct.{id_in, distinct}
use Rattle.text_tables.specs.Tables.{all_words, all_attributes, labels_of, names_of, tables}
use Rattle.text_tables.specs.Pieces.{Piece, blank, label, attribute, pieces_of, after_each}

pub record Built : Type 0 where
  pub line_starts : List ℕ
  pub word_starts_of : List ℕ
  pub references : List ℕ
  pub ids : List ℕ
  pub values : List Float
  pub scale_starts_of : List ℕ
  pub scales : Bytes
  -- a sequence is open
  pub within : Bool

abbrev pub nothing_built : Built
nothing_built = record { line_starts = []; word_starts_of = []; references = []; ids = []; values = []; scale_starts_of = []; scales = []; within = false }

-- one piece more, all names being known: a start is how much there is when its list begins
abbrev pub built_on : List Bytes → List Bytes → Built → Piece → Built
built_on labels names b blank = record {
  line_starts = b.line_starts;
  word_starts_of = b.word_starts_of;
  references = b.references;
  ids = b.ids;
  values = b.values;
  scale_starts_of = b.scale_starts_of;
  scales = b.scales;
  within = false;
}
built_on labels names b (label n) = record {
  line_starts = cond b.within b.line_starts (b.line_starts ++ (length b.references ∷ []));
  word_starts_of = b.word_starts_of ++ (length b.ids ∷ []);
  references = b.references ++ (id_in labels n ∷ []);
  ids = b.ids;
  values = b.values;
  scale_starts_of = b.scale_starts_of;
  scales = b.scales;
  within = true;
}
built_on labels names b (attribute a) = record {
  line_starts = b.line_starts;
  word_starts_of = b.word_starts_of;
  references = b.references;
  ids = b.ids ++ (id_in names a.name ∷ []);
  values = b.values ++ (value_of a.scale ∷ []);
  scale_starts_of = b.scale_starts_of ++ (length b.scales ∷ []);
  scales = b.scales ++ a.scale;
  within = b.within;
}

abbrev pub built_of : List Bytes → List Bytes → List Piece → Built
built_of labels names pieces = after_each (built_on labels names) nothing_built pieces

-- with the last start behind the others, the tables of the sequences
pub record Builds (ss : List (List Word)) (b : Built) : Type 0 where
  pub line_starts : b.line_starts ++ (length b.references ∷ []) ≡ (tables ss).corpus.starts
  pub word_starts_of : b.word_starts_of ++ (length b.ids ∷ []) ≡ (tables ss).corpus.words.starts
  pub references : b.references ≡ (tables ss).corpus.references
  pub ids : b.ids ≡ (tables ss).corpus.words.ids
  pub values : b.values ≡ (tables ss).corpus.words.values
  pub scale_starts_of : b.scale_starts_of ++ (length b.scales ∷ []) ≡ (tables ss).scales.starts
  pub scales : b.scales ≡ (tables ss).scales.bytes

abbrev pub BuiltMeans : Type 0
BuiltMeans = (ls : List Line) →
    let words = all_words (sequences ls) in
    Builds (sequences ls) (built_of (distinct (labels_of words)) (distinct (names_of (all_attributes words))) (pieces_of ls))
