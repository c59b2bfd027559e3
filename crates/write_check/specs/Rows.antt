-- The writer's refusals row by row, and their order: 1, 2, 3, 4, 5, 2 of the text, 11. Assumes nothing.
use Rattle.std.specs.Prelude.{List, [], ◌∷◌, ◌++◌, ℕ, ◌+◌, length}
use denote.Triple.Both.{Both}
use Rattle.refusals.specs.Refusals.{Checked, first}
use Rattle.refusals.specs.Bounds.{the_attribute_lists, the_instances, the_words, the_attributes, word_table, attribute_table, reference_table, label_name_table, attribute_name_table, scale_table}
use Rattle.score_tables.specs.Rows.{one}
use Rattle.refusal_rows.specs.Limits.{Limit, count, room, two}
use Rattle.refusal_rows.specs.Tests.{Test, starts_rise, lines_fit, ids_below, checks}
use Rattle.lines.specs.declared.Totals.{Totals}
use Rattle.lines.specs.Entry.{Numbers}
use Rattle.text_tables.specs.Written.{Unwritten, written_text}
use Rattle.text_writing.specs.Ready.{strings, lent_tables}
use Rattle.write_check.specs.Carry.{Carry, named, kept, carries}
use Rattle.write_check.specs.declared.Names.{Names}

-- what the writer is given to read: how many there are of each, and the tables, with the instances among them
pub record Unchecked : Type 0 where
  pub labels : ℕ
  pub words : ℕ
  pub attributes : ℕ
  pub names : ℕ
  pub label_bytes_of : ℕ
  pub name_bytes_of : ℕ
  pub scale_bytes_of : ℕ
  pub tables : Unwritten

abbrev pub unchecked_of : ℕ → Totals → Names → List ℕ → List ℕ → List ℕ → List ℕ → List ℕ → List ℕ → List ℕ → List ℕ → List ℕ → List ℕ → Unchecked
unchecked_of labels totals names lines begins ids references label_starts_of label_names name_starts_of attribute_names scale_starts_of scales = record {
  labels = labels;
  words = totals.words;
  attributes = totals.attributes;
  names = names.attributes;
  label_bytes_of = names.label_bytes;
  name_bytes_of = names.attribute_bytes;
  scale_bytes_of = names.scale_bytes;
  tables = lent_tables totals.instances lines begins ids references (strings label_starts_of label_names) (strings name_starts_of attribute_names) (strings scale_starts_of scales);
}

-- in an `ensures`, where the name of a table is the pair of entry and exit
abbrev pub unchecked_was : {A B C D E F G H I J : Type 0} → ℕ → Totals → Names → Both Numbers A → Both Numbers B → Both Numbers C → Both Numbers D → Both Numbers E → Both Numbers F → Both Numbers G → Both Numbers H → Both Numbers I → Both Numbers J → Unchecked
unchecked_was labels totals names a b c d e f g h i j =
    unchecked_of labels totals names a.entry.now b.entry.now c.entry.now d.entry.now e.entry.now f.entry.now g.entry.now h.entry.now i.entry.now j.entry.now

-- its counts as the call takes them
abbrev pub totals_of : Unchecked → Totals
totals_of g = record { instances = g.tables.instances; words = g.words; attributes = g.attributes }

abbrev pub counts_of : Unchecked → Names
counts_of g = record { attributes = g.names; label_bytes = g.label_bytes_of; attribute_bytes = g.name_bytes_of; scale_bytes = g.scale_bytes_of }

-- ---- 2 | "a count other than L, T and epochs outside its bound" | 0: "attribute names (3), instances (7), words (8), attributes (9)"
abbrev pub count_limits : ℕ → Totals → List Limit
count_limits names totals =
    count the_attribute_lists names
    ∷ count the_instances totals.instances
    ∷ count the_words totals.words
    ∷ count the_attributes totals.attributes
    ∷ []

-- ---- 2 | "a lent buffer too short" | 0: "what is read, in the call's order"
abbrev pub word_limits : Totals → (lines begins ids references : ℕ) → List Limit
word_limits totals lines begins ids references =
    room lines (totals.instances + 1)
    ∷ room begins (totals.words + 1)
    ∷ room ids totals.attributes
    ∷ room references totals.words
    ∷ []

abbrev pub string_limits : ℕ → ℕ → Names → (label_starts_of label_names name_starts_of attribute_names scale_starts_of scales : ℕ) → List Limit
string_limits labels attributes names label_starts_of label_names name_starts_of attribute_names scale_starts_of scales =
    room label_starts_of (labels + 1)
    ∷ room label_names names.label_bytes
    ∷ room name_starts_of (names.attributes + 1)
    ∷ room attribute_names names.attribute_bytes
    ∷ room scale_starts_of (attributes + 1)
    ∷ room scales names.scale_bytes
    ∷ []

abbrev pub written_counts : Unchecked → List Limit
written_counts g = count_limits g.names (totals_of g)

abbrev pub word_rooms : Unchecked → List Limit
word_rooms g =
    let t = g.tables in
    word_limits (totals_of g) (length t.line_starts) (length t.word_starts_of) (length t.ids) (length t.references)

abbrev pub string_rooms : Unchecked → List Limit
string_rooms g =
    let t = g.tables in
    string_limits g.labels g.attributes (counts_of g) (length t.labels.starts) (length t.labels.bytes) (length t.names.starts) (length t.names.bytes) (length t.scales.starts) (length t.scales.bytes)

abbrev pub written_rooms : Unchecked → List Limit
written_rooms g = word_rooms g ++ string_rooms g

-- ---- 3 | "a rule of starts is broken" | "index of the first bad start": "lines, begins, label name starts, attribute name starts, scale starts"
abbrev pub rising_tests : ℕ → Totals → Names → (lines begins label_starts_of name_starts_of scale_starts_of : List ℕ) → List Test
rising_tests labels totals names lines begins label_starts_of name_starts_of scale_starts_of =
    starts_rise word_table lines totals.instances totals.words
    ∷ starts_rise attribute_table begins totals.words totals.attributes
    ∷ starts_rise label_name_table label_starts_of labels names.label_bytes
    ∷ starts_rise attribute_name_table name_starts_of names.attributes names.attribute_bytes
    ∷ starts_rise scale_table scale_starts_of totals.attributes names.scale_bytes
    ∷ []

abbrev pub written_starts : Unchecked → List Test
written_starts g =
    let t = g.tables in
    rising_tests g.labels (totals_of g) (counts_of g) t.line_starts t.word_starts_of t.labels.starts t.names.starts t.scales.starts

-- ---- 4: "by sequence"
abbrev pub written_lengths : Unchecked → List Test
written_lengths g = lines_fit g.tables.line_starts g.tables.instances ∷ []

-- ---- 5: "an id without a name, at or above attribute_names, then a label at or above L"
abbrev pub written_ids : Unchecked → List Test
written_ids g =
    ids_below attribute_table g.tables.ids g.attributes g.names
    ∷ ids_below reference_table g.tables.references g.words g.labels
    ∷ []

-- ---- 2 of the text: "The text's room is tested where its need is known: after 3, 4 and 5 .. and before 11"
abbrev pub text_room : Unchecked → ℕ → List Limit
text_room g have = room have (length (written_text g.tables)) ∷ []

-- ---- 11: "labels, then attributes, then scales, place the index in its table"
abbrev pub written_carries : Unchecked → List Carry
written_carries g =
    named g.tables.labels g.labels
    ∷ named g.tables.names g.names
    ∷ kept g.tables.scales g.attributes
    ∷ []

-- ---- the order, into a text of so many bytes
abbrev pub read_rows : Unchecked → List Checked
read_rows g =
    one g.labels
    ∷ two (written_counts g)
    ∷ two (written_rooms g)
    ∷ checks (written_starts g)
    ++ checks (written_lengths g)
    ++ checks (written_ids g)

abbrev pub text_rows : Unchecked → ℕ → List Checked
text_rows g have = two (text_room g have) ∷ carries (written_carries g)

unfoldable pub write_checked : Unchecked → ℕ → Checked
write_checked g have = first (read_rows g ++ text_rows g have)

-- what can be said before any table is read, and before any name is
unfoldable pub write_sized_of : Unchecked → Checked
write_sized_of g = first (one g.labels ∷ two (written_counts g) ∷ two (written_rooms g) ∷ [])

unfoldable pub write_read : Unchecked → Checked
write_read g = first (read_rows g)
