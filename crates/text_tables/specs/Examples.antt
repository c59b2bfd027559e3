-- Desk cases T1 to T4, computed: the texts of T1 and T2, their tables whole with numbers by their bits, and what is written of them; counts of T3 and T4, and T7's length. Assumes nothing.
use Rattle.std.specs.Prelude.{◌≡◌, refl, ℕ, length, replicate, Float}
use mathlib.Core.List.{List, [], ◌∷◌, ◌++◌, flatten}
use Rattle.std.specs.Float.{binary64}
use Rattle.std.specs.Float.Ieee.{of_bits, of_int, round}
use Rattle.layout.specs.Layout.{Line, empty, word, escaped, scale_text, attributes_text, line_text, more_lines, text_of, sequences_from, sequences}
use Rattle.scales.specs.Value.{digits_worth, digits_in, behind_point, value_of}
use Rattle.text_tables.specs.Distinct.{same, id_in, learnt, learnt_all}
use Rattle.text_tables.specs.Tables.{starts_from, Tables, tables}
use Rattle.text_tables.specs.Pieces.{pieces_of, after_each}
use Rattle.text_tables.specs.Tally.{nothing_yet, tally_of}
use Rattle.text_tables.specs.Written.{unwritten, string_at, places_from, all_lines, written_text}

abbrev number : ℕ → Float
number bits = of_bits binary64 bits

-- T1: `A␉a:0.5␉b␊B␊␊␊A␉b:-0␊`
abbrev t1 : List Line
t1 =
    word (record {
      label = 65 ∷ [];
      attributes = record { name = 97 ∷ []; scale = 48 ∷ 46 ∷ 53 ∷ [] } ∷ record { name = 98 ∷ []; scale = [] } ∷ [];
    })
    ∷ word (record { label = 66 ∷ []; attributes = [] })
    ∷ empty
    ∷ empty
    ∷ word (record { label = 65 ∷ []; attributes = record { name = 98 ∷ []; scale = 45 ∷ 48 ∷ [] } ∷ [] })
    ∷ empty
    ∷ []

t1_text : text_of t1 ≡ 65 ∷ 9 ∷ 97 ∷ 58 ∷ 48 ∷ 46 ∷ 53 ∷ 9 ∷ 98 ∷ 10 ∷ 66 ∷ 10 ∷ 10 ∷ 10 ∷ 65 ∷ 9 ∷ 98 ∷ 58 ∷ 45 ∷ 48 ∷ 10 ∷ []
unfolding text_of more_lines line_text attributes_text escaped scale_text
t1_text = refl

-- "lines 0,2,3; begins 0,2,2,3; ids 0,1,1; values 0.5, 1, −0; references 0,1,0; shares 1,1; label names A,B (starts 0,1,2); attribute names a,b;
-- scales `0.5`, none, `-0` (starts 0,3,3,5; bytes `0.5-0`)"
abbrev t1_tables : Tables
t1_tables = record {
  corpus = record {
    instances = 2;
    starts = 0 ∷ 2 ∷ 3 ∷ [];
    count = 3;
    words = record {
      starts = 0 ∷ 2 ∷ 2 ∷ 3 ∷ [];
      size = 3;
      ids = 0 ∷ 1 ∷ 1 ∷ [];
      values = number 0x3fe0000000000000 ∷ number 0x3ff0000000000000 ∷ number 0x8000000000000000 ∷ [];
    };
    references = 0 ∷ 1 ∷ 0 ∷ [];
    weights = number 0x3ff0000000000000 ∷ number 0x3ff0000000000000 ∷ [];
  };
  labels = record { starts = 0 ∷ 1 ∷ 2 ∷ []; bytes = 65 ∷ 66 ∷ [] };
  names = record { starts = 0 ∷ 1 ∷ 2 ∷ []; bytes = 97 ∷ 98 ∷ [] };
  scales = record { starts = 0 ∷ 3 ∷ 3 ∷ 5 ∷ []; bytes = 48 ∷ 46 ∷ 53 ∷ 45 ∷ 48 ∷ [] };
}

t1_read : tables (sequences t1) ≡ t1_tables
unfolding tables sequences_from starts_from flatten learnt_all learnt id_in same value_of digits_worth digits_in behind_point round of_int of_bits
t1_read = refl

-- "Written: `A␉a:0.5␉b␊B␊␊A␉b:-0␊␊`"
t1_written : written_text (unwritten t1_tables) ≡ 65 ∷ 9 ∷ 97 ∷ 58 ∷ 48 ∷ 46 ∷ 53 ∷ 9 ∷ 98 ∷ 10 ∷ 66 ∷ 10 ∷ 10 ∷ 65 ∷ 9 ∷ 98 ∷ 58 ∷ 45 ∷ 48 ∷ 10 ∷ 10 ∷ []
unfolding text_of more_lines line_text attributes_text escaped scale_text all_lines string_at places_from flatten
t1_written = refl

-- T7: "a text of 20 bytes 2/0 .., of 21 accepted": 21 bytes are needed
t1_needs : length (written_text (unwritten t1_tables)) ≡ 21
unfolding text_of more_lines line_text attributes_text escaped scale_text all_lines string_at places_from flatten
t1_needs = refl

-- T2: `h\:m␉C\:\\x:1`
abbrev t2 : List Line
t2 = word (record { label = 104 ∷ 58 ∷ 109 ∷ []; attributes = record { name = 67 ∷ 58 ∷ 92 ∷ 120 ∷ []; scale = 49 ∷ [] } ∷ [] }) ∷ []

t2_text : text_of t2 ≡ 104 ∷ 92 ∷ 58 ∷ 109 ∷ 9 ∷ 67 ∷ 92 ∷ 58 ∷ 92 ∷ 92 ∷ 120 ∷ 58 ∷ 49 ∷ []
unfolding text_of more_lines line_text attributes_text escaped scale_text
t2_text = refl

-- "One word; label `h:m` (3 bytes), attribute `C:\x` (4 bytes), value 1, text `1`"
abbrev t2_tables : Tables
t2_tables = record {
  corpus = record {
    instances = 1;
    starts = 0 ∷ 1 ∷ [];
    count = 1;
    words = record { starts = 0 ∷ 1 ∷ []; size = 1; ids = 0 ∷ []; values = number 0x3ff0000000000000 ∷ [] };
    references = 0 ∷ [];
    weights = number 0x3ff0000000000000 ∷ [];
  };
  labels = record { starts = 0 ∷ 3 ∷ []; bytes = 104 ∷ 58 ∷ 109 ∷ [] };
  names = record { starts = 0 ∷ 4 ∷ []; bytes = 67 ∷ 58 ∷ 92 ∷ 120 ∷ [] };
  scales = record { starts = 0 ∷ 1 ∷ []; bytes = 49 ∷ [] };
}

t2_read : tables (sequences t2) ≡ t2_tables
unfolding tables sequences_from starts_from flatten learnt_all learnt id_in same value_of digits_worth digits_in behind_point round of_int of_bits
t2_read = refl

-- "Written: the same and two line feeds"
t2_written : written_text (unwritten t2_tables) ≡ 104 ∷ 92 ∷ 58 ∷ 109 ∷ 9 ∷ 67 ∷ 92 ∷ 58 ∷ 92 ∷ 92 ∷ 120 ∷ 58 ∷ 49 ∷ 10 ∷ 10 ∷ []
unfolding text_of more_lines line_text attributes_text escaped scale_text all_lines string_at places_from flatten
t2_written = refl

-- T3: "the empty text, and `␊␊`" have no word; "`A`: one word"
t3_texts : (text_of (empty ∷ []) ≡ []) × (text_of (empty ∷ empty ∷ empty ∷ []) ≡ 10 ∷ 10 ∷ []) × (text_of (word (record { label = 65 ∷ []; attributes = [] }) ∷ []) ≡ 65 ∷ [])
unfolding text_of more_lines line_text attributes_text escaped
t3_texts = (refl, refl, refl)

t3_none : (tally_of (pieces_of (empty ∷ [])) ≡ nothing_yet) × (tally_of (pieces_of (empty ∷ empty ∷ empty ∷ [])) ≡ nothing_yet)
unfolding after_each pieces_of
t3_none = (refl, refl)

t3_one : tally_of (pieces_of (word (record { label = 65 ∷ []; attributes = [] }) ∷ [])) ≡ record { sequences = 1; words = 1; attributes = 0; present = 1; scale_bytes_of = 0; labels = (65 ∷ []) ∷ []; names = []; long = 0 }
unfolding after_each pieces_of learnt id_in
t3_one = refl

-- T1's counts: "Two sequences"
t1_tally : tally_of (pieces_of t1) ≡ record { sequences = 2; words = 3; attributes = 3; present = 0; scale_bytes_of = 5; labels = (65 ∷ []) ∷ (66 ∷ []) ∷ []; names = (97 ∷ []) ∷ (98 ∷ []) ∷ []; long = 0 }
unfolding after_each pieces_of learnt id_in same
t1_tally = refl

-- T4: "128 times `A␊`, `␊`, 129 times `A␊`: 4/1": the second is too long
abbrev many_a : ℕ → List Line
many_a n = replicate n (word (record { label = 65 ∷ []; attributes = [] }))

t4_long : ((tally_of (pieces_of (many_a 128 ++ (empty ∷ many_a 129)))).long ≡ 2) × ((tally_of (pieces_of (many_a 128 ++ (empty ∷ many_a 128)))).long ≡ 0)
unfolding after_each pieces_of learnt id_in same
t4_long = (refl, refl)
