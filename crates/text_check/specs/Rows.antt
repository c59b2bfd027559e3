-- What the reader of a training text refuses once the text is well-formed, and in which order: 2 of the text's length, 2 of the counts, 2 of the rooms, 4. Assumes nothing.
use Rattle.std.specs.Prelude.{List, [], ◌∷◌, ℕ, ltb, length}
use Rattle.refusals.specs.Refusals.{Checked, refuse, first}
use Rattle.refusals.specs.Bounds.{the_labels, the_attribute_lists, the_instances, the_words, the_attributes}
use Rattle.refusal_rows.specs.Limits.{Limit, count, at_most, room, two}
use Rattle.refusal_rows.specs.Tests.{Test, lines_fit, checks}
use Rattle.layout.specs.Layout.{Word}
use Rattle.text_tables.specs.Distinct.{distinct}
use Rattle.text_tables.specs.Tables.{Tables, tables, all_words, all_attributes, labels_of, names_of}
use Rattle.text_check.specs.declared.Lengths.{Lengths}

-- "A text of more than 4,294,967,295 bytes is 2", "before the other counts"
abbrev pub too_long_of : ℕ → Checked
too_long_of bytes = refuse 2 0 (ltb 4294967295 bytes)

-- "The 33rd label and the 65,536th attribute are 2, and not 1; no word at all is 2", charged to the instances; "The other bounds hold as everywhere"
abbrev pub text_limits : (labels names instances words attributes : ℕ) → List Limit
text_limits labels names instances words attributes =
    at_most the_labels labels
    ∷ count the_attribute_lists names
    ∷ count the_instances instances
    ∷ count the_words words
    ∷ count the_attributes attributes
    ∷ []

abbrev pub text_counts : List (List Word) → List Limit
text_counts ss =
    let words = all_words ss in
    let attributes = all_attributes words in
    text_limits (length (distinct (labels_of words))) (length (distinct (names_of attributes))) (length ss) (length words) (length attributes)

-- "A table is full where the whole answer does not fit", in the order of the call's slices
abbrev pub text_rooms : Tables → Lengths → List Limit
text_rooms t have =
    room have.lines (length t.corpus.starts)
    ∷ room have.begins (length t.corpus.words.starts)
    ∷ room have.ids (length t.corpus.words.ids)
    ∷ room have.values (length t.corpus.words.values)
    ∷ room have.references (length t.corpus.references)
    ∷ room have.weights (length t.corpus.weights)
    ∷ room have.label_starts (length t.labels.starts)
    ∷ room have.label_bytes (length t.labels.bytes)
    ∷ room have.name_starts (length t.names.starts)
    ∷ room have.name_bytes (length t.names.bytes)
    ∷ room have.scale_starts (length t.scales.starts)
    ∷ room have.scale_bytes (length t.scales.bytes)
    ∷ []

-- "4's place is the index of the first sequence above 128 words"
abbrev pub sequence_tests : List (List Word) → List Test
sequence_tests ss = lines_fit (tables ss).corpus.starts (length ss) ∷ []

-- "Order: 11, 2, .., 4": of a text of so many bytes with these sequences, without tables to fill, and with tables of these lengths
unfoldable pub text_sized : ℕ → List (List Word) → Checked
text_sized bytes ss = first (too_long_of bytes ∷ two (text_counts ss) ∷ checks (sequence_tests ss))

unfoldable pub text_checked : ℕ → List (List Word) → Lengths → Checked
text_checked bytes ss have = first (too_long_of bytes ∷ two (text_counts ss) ∷ two (text_rooms (tables ss) have) ∷ checks (sequence_tests ss))
