-- What one piece does to the tables, and what is relied on there. Assumes nothing.
use Rattle.std.specs.Prelude.{◌≡◌, true, cond, List, map, ℕ, ◌+◌, ◌≤◌, ◌<◌, length, set, Float}
use Rattle.std.proofs.Math.Seq.{slice}
use Rattle.layout.specs.Layout.{Bytes, escaped}
use Rattle.scales.specs.Value.{value_of}
use Rattle.text_tables.specs.Distinct.{id_in}
use Rattle.text_tables.specs.Pieces.{Piece}
use Rattle.text_tables.specs.Built.{Built, built_on}
use Rattle.text_tables.specs.Laid.{laid}
use Rattle.byte_buffers.specs.Stored.{RoomFor, Put}
use Rattle.pieces.specs.declared.Kind.TheVariants.{Label, Attribute}
use Rattle.pieces.specs.declared.Span.{Span}
use Rattle.pieces.specs.PieceText.{kept_in}
use Rattle.pieces.specs.Standing.{Stands}
use Rattle.distinct.specs.Names.{name_at, NameStands, Listed, Known}
use Rattle.distinct.specs.Slots.{Tabled}
use Rattle.fill_text.specs.declared.WordsSoFar.{WordsSoFar}
use Rattle.fill_text.specs.declared.KeptSoFar.{KeptSoFar}

-- ---- a word begins

-- the counts fit, and so do the entries that a word writes
pub record WordMay (text : Bytes) (positions : List ℕ) (count from split : ℕ) (s : WordsSoFar) (line_starts₀ word_starts₀ references₀ : List ℕ) : Type 0 where
  pub listed : Listed text positions count
  pub name : NameStands text from split
  pub few : count ≤ 4294967295
  pub sequences : s.sequences ≤ 4294967295
  pub words : s.words ≤ 4294967295
  pub attributes : s.attributes ≤ 4294967295
  pub line : s.sequences < length line_starts₀
  pub start : s.words < length word_starts₀
  pub reference : s.words < length references₀

abbrev pub word_begun : WordsSoFar → WordsSoFar
word_begun s = record { sequences = cond s.within s.sequences (s.sequences + 1); words = s.words + 1; attributes = s.attributes; within = true }

-- a sequence begins where none is open; the word's start is how many attributes there are, its reference the id of its label
pub record WordBegun (text : Bytes) (positions : List ℕ) (count from : ℕ) (s : WordsSoFar) (line_starts₀ word_starts₀ references₀ : List ℕ) (r : WordsSoFar) (line_starts' word_starts' references' : List ℕ) : Type 0 where
  pub so_far : r ≡ word_begun s
  pub line_starts : line_starts' ≡ cond s.within line_starts₀ (set line_starts₀ s.sequences s.words)
  pub word_starts_of : word_starts' ≡ set word_starts₀ s.words s.attributes
  pub references : (known : List Bytes) → Known text positions count known → references' ≡ set references₀ s.words (id_in known (name_at text from))

-- ---- a piece, for the tables of words

-- the tables hold what is built so far, over what they held
pub record WordsBuilt (b : Built) (l₀ w₀ r₀ : List ℕ) (s : WordsSoFar) (line_starts' word_starts' references' : List ℕ) : Type 0 where
  pub line_starts : line_starts' ≡ laid b.line_starts l₀
  pub word_starts_of : word_starts' ≡ laid b.word_starts_of w₀
  pub references : references' ≡ laid b.references r₀
  pub sequences : s.sequences ≡ length b.line_starts
  pub words : s.words ≡ length b.references
  pub starts : s.words ≡ length b.word_starts_of
  pub attributes : s.attributes ≡ length b.ids
  pub within : s.within ≡ b.within

pub record WordPieceMay (text : Bytes) (positions : List ℕ) (count : ℕ) (span : Span) (s : WordsSoFar) (line_starts₀ word_starts₀ references₀ : List ℕ) : Type 0 where
  pub listed : Listed text positions count
  pub name : NameStands text span.from span.split
  pub few : count ≤ 4294967295
  pub sequences : s.sequences ≤ 4294967295
  pub words : s.words ≤ 4294967295
  pub attributes : s.attributes ≤ 4294967295
  pub line : s.sequences < length line_starts₀
  pub start : s.words < length word_starts₀
  pub reference : span.kind ≡ Label → s.words < length references₀

-- whatever was built, one piece more is
pub record WordPieceTaken (text : Bytes) (positions : List ℕ) (count : ℕ) (span : Span) (s : WordsSoFar) (line_starts₀ word_starts₀ references₀ : List ℕ) (r : WordsSoFar) (line_starts' word_starts' references' : List ℕ) : Type 0 where
  pub on : (labels names : List Bytes) (b : Built) (p : Piece) (l₀ w₀ r₀ : List ℕ) → Known text positions count (map escaped labels) → Stands text span p → WordsBuilt b l₀ w₀ r₀ s line_starts₀ word_starts₀ references₀
      → WordsBuilt (built_on labels names b p) l₀ w₀ r₀ r line_starts' word_starts' references'

-- ---- an attribute

pub record AttributeMay (text : Bytes) (slots positions : List ℕ) (count : ℕ) (span : Span) (s : KeptSoFar) (ids₀ : List ℕ) (values₀ : List Float) (starts₀ scales₀ : List ℕ) : Type 0 where
  pub tabled : Tabled text slots positions count
  pub piece : (p : Piece) × Stands text span p
  pub few : count ≤ 4294967295
  pub attributes : s.attributes ≤ 4294967295
  pub bytes : s.bytes ≤ 4294967295
  pub to : span.to ≤ 4294967295
  pub id : s.attributes < length ids₀
  pub value : s.attributes < length values₀
  pub start : s.attributes < length starts₀
  pub kept : RoomFor (slice (span.split + 1) span.to text) scales₀ s.bytes

-- the id of its name, its value, where its kept text begins, and the kept text
pub record AttributePut (text : Bytes) (positions : List ℕ) (count : ℕ) (span : Span) (s : KeptSoFar) (ids₀ : List ℕ) (values₀ : List Float) (starts₀ scales₀ : List ℕ) (r : ℕ) (ids' : List ℕ) (values' : List Float) (starts' scales' : List ℕ) : Type 0 where
  pub ids : (known : List Bytes) → Known text positions count known → ids' ≡ set ids₀ s.attributes (id_in known (name_at text span.from))
  pub values : (p : Piece) → Stands text span p → values' ≡ set values₀ s.attributes (value_of (kept_in p))
  pub starts : starts' ≡ set starts₀ s.attributes s.bytes
  pub scales : Put (slice (span.split + 1) span.to text) scales₀ s.bytes r scales'

-- ---- a piece, for the tables of attributes

pub record KeptBuilt (b : Built) (i₀ : List ℕ) (v₀ : List Float) (s₀ k₀ : List ℕ) (s : KeptSoFar) (ids' : List ℕ) (values' : List Float) (starts' scales' : List ℕ) : Type 0 where
  pub ids : ids' ≡ laid b.ids i₀
  pub values : values' ≡ laid b.values v₀
  pub starts : starts' ≡ laid b.scale_starts_of s₀
  pub scales : scales' ≡ laid b.scales k₀
  pub id_count : s.attributes ≡ length b.ids
  pub value_count : s.attributes ≡ length b.values
  pub start_count : s.attributes ≡ length b.scale_starts_of
  pub byte_count : s.bytes ≡ length b.scales

pub record KeptPieceMay (text : Bytes) (slots positions : List ℕ) (count : ℕ) (span : Span) (s : KeptSoFar) (ids₀ : List ℕ) (values₀ : List Float) (starts₀ scales₀ : List ℕ) : Type 0 where
  pub attributes : s.attributes ≤ 4294967295
  pub may : span.kind ≡ Attribute → AttributeMay text slots positions count span s ids₀ values₀ starts₀ scales₀

pub record KeptPieceTaken (text : Bytes) (positions : List ℕ) (count : ℕ) (span : Span) (s : KeptSoFar) (ids₀ : List ℕ) (values₀ : List Float) (starts₀ scales₀ : List ℕ) (r : KeptSoFar) (ids' : List ℕ) (values' : List Float) (starts' scales' : List ℕ) : Type 0 where
  pub on : (labels names : List Bytes) (b : Built) (p : Piece) (i₀ : List ℕ) (v₀ : List Float) (s₀ k₀ : List ℕ) → Known text positions count (map escaped names) → Stands text span p → KeptBuilt b i₀ v₀ s₀ k₀ s ids₀ values₀ starts₀ scales₀
      → KeptBuilt (built_on labels names b p) i₀ v₀ s₀ k₀ r ids' values' starts' scales'
