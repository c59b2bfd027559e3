-- What the sizes of a text promise: nothing is lent but the text, so there is only an answer. Assumes nothing.
use Rattle.refusals.specs.declared.Refusal.{Refusal}
use Rattle.std.specs.Prelude.{◌≡◌, List, [], ◌∷◌, ◌↔◌, ℕ, ◌+◌, length, Ok, Result}
use Rattle.refusals.specs.Refusals.{numbered}
use Rattle.refusals.specs.Said.{Said, accepted, refused, or_refused}
use Rattle.refusal_rows.specs.Limits.{Limit, room, AllWithin}
use Rattle.layout.specs.Layout.{Bytes, Word, Line, text_of, SoundText, sequences}
use Rattle.layout.specs.Scan.{PlaceOf}
use Rattle.text_tables.specs.Tables.{tables}
use Rattle.text_check.specs.declared.Lengths.{Lengths}
use Rattle.text_check.specs.Rows.{text_sized, text_rooms}
use Rattle.read_text.specs.declared.TextSizes.{TextSizes}
use Rattle.read_text.specs.Promise.{Buffers, Outcome, said, sizes_for, lengths_of, Promised}

-- "answers the same struct and refuses 11, 2 and 4"
abbrev pub sized_of : Bytes → List (List Word) → Said TextSizes
sized_of text ss = or_refused (text_sized (length text) ss) (accepted (sizes_for ss))

pub record SizesPromised (text : Bytes) (answer : Result TextSizes Refusal) : Type 0 where
  pub malformed : (place : ℕ) → PlaceOf text place → said answer ≡ refused (numbered 11 place)
  pub whole : (ls : List Line) → SoundText ls → text_of ls ≡ text → said answer ≡ sized_of text (sequences ls)

-- no two different answers satisfy one promise, and some answer does; proved in proofs/Sized
abbrev pub OnlyOneSizes : Type 0
OnlyOneSizes = (text : Bytes) (a b : Result TextSizes Refusal) → SizesPromised text a → SizesPromised text b → a ≡ b

abbrev pub SomeSizes : Type 0
SomeSizes = (text : Bytes) → (answer : Result TextSizes Refusal) × SizesPromised text answer

-- ---- what the sizes tell of reading

-- how long the tables have to be: "Needed length"
abbrev pub sizes_rooms : TextSizes → Lengths → List Limit
sizes_rooms sizes have =
    room have.lines (sizes.instances + 1)
    ∷ room have.begins (sizes.words + 1)
    ∷ room have.ids sizes.attributes
    ∷ room have.values sizes.attributes
    ∷ room have.references sizes.words
    ∷ room have.weights sizes.instances
    ∷ room have.label_starts (sizes.labels + 1)
    ∷ room have.label_bytes sizes.label_bytes
    ∷ room have.name_starts (sizes.names + 1)
    ∷ room have.name_bytes sizes.name_bytes
    ∷ room have.scale_starts (sizes.attributes + 1)
    ∷ room have.scale_bytes sizes.scale_bytes
    ∷ []

-- "A table is full where the whole answer does not fit. The need is exact": a text with sizes is read exactly where the tables are as long as these say,
-- with the same sizes, else it is 2; and no other text is read
pub record SizesSuffice (before : Buffers) (outcome : Outcome) (answer : Result TextSizes Refusal) : Type 0 where
  pub enough : (sizes : TextSizes) → answer ≡ Ok sizes → outcome.answer ≡ Ok sizes ↔ AllWithin (sizes_rooms sizes (lengths_of before))
  pub short : (sizes : TextSizes) → answer ≡ Ok sizes → (AllWithin (sizes_rooms sizes (lengths_of before)) → ⊥) → said outcome.answer ≡ refused (numbered 2 0)
  pub same : (sizes : TextSizes) → outcome.answer ≡ Ok sizes → answer ≡ Ok sizes

abbrev pub SizesTell : Type 0
SizesTell = (text : Bytes) (before : Buffers) (outcome : Outcome) (answer : Result TextSizes Refusal) → Promised text before outcome → SizesPromised text answer → SizesSuffice before outcome answer

-- "what bodkinbloom_read_text answers where every table is long enough", refusals too
abbrev pub SizesAgree : Type 0
SizesAgree = (text : Bytes) (before : Buffers) (outcome : Outcome) (answer : Result TextSizes Refusal) → Promised text before outcome → SizesPromised text answer
    → ((ls : List Line) → SoundText ls → text_of ls ≡ text → AllWithin (text_rooms (tables (sequences ls)) (lengths_of before))) → outcome.answer ≡ answer
