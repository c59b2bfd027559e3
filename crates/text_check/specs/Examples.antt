-- Desk cases T3 to T6: what is refused of the sequences of a text, and in which order. Assumes nothing.
use Rattle.std.specs.Prelude.{◌≡◌, refl, true, ℕ, replicate, Ok}
use mathlib.Core.List.{List, [], ◌∷◌, map, flatten}
use Rattle.refusals.specs.Refusals.{refused_at, refuse, or_next_of, lowest}
use Rattle.refusal_rows.specs.Limits.{in_order_of}
use Rattle.layout.specs.Layout.{Word}
use Rattle.text_tables.specs.Distinct.{same, id_in, learnt, learnt_all}
use Rattle.text_tables.specs.Tables.{starts_from, tables}
use Rattle.text_check.specs.declared.Lengths.{Lengths}
use Rattle.text_check.specs.Rows.{text_counts, text_sized, text_checked}

-- a word of one byte without attributes
abbrev bare : ℕ → Word
bare b = record { label = b ∷ []; attributes = [] }

-- T3: "the empty text .. 2/0", "`A`: one word"
none : text_sized 0 [] ≡ refused_at 2 0
unfolding text_sized tables starts_from flatten learnt_all learnt id_in same lowest or_next_of refuse
none = refl

one : text_sized 1 ((bare 65 ∷ []) ∷ []) ≡ Ok tt
unfolding text_sized tables starts_from flatten learnt_all learnt id_in same lowest or_next_of refuse
one = refl

-- T4: "128 times `A␊`, `␊`, 129 times `A␊`: 4/1"
long : (text_sized 515 (replicate 128 (bare 65) ∷ replicate 129 (bare 65) ∷ []) ≡ refused_at 4 1) × (text_sized 513 (replicate 128 (bare 65) ∷ replicate 128 (bare 65) ∷ []) ≡ Ok tt)
unfolding text_sized tables starts_from flatten learnt_all learnt id_in same lowest or_next_of refuse
long = (refl, refl)

-- T5: "lines `L0` to `L32`: 2/0", here with labels of one byte; and 32 of them
abbrev bytes : List ℕ
bytes = 65 ∷ 66 ∷ 67 ∷ 68 ∷ 69 ∷ 70 ∷ 71 ∷ 72 ∷ 73 ∷ 74 ∷ 75 ∷ 76 ∷ 77 ∷ 78 ∷ 79 ∷ 80 ∷ 81 ∷ 82 ∷ 83 ∷ 84 ∷ 85 ∷ 86 ∷ 87 ∷ 88 ∷ 89 ∷ 90 ∷ 91 ∷ 92 ∷ 93 ∷ 94 ∷ 95 ∷ 96 ∷ []

many : (text_sized 65 (map bare (97 ∷ bytes) ∷ []) ≡ refused_at 2 0) × (text_sized 63 (map bare bytes ∷ []) ≡ Ok tt)
unfolding text_sized tables starts_from flatten learnt_all learnt id_in same lowest or_next_of refuse
many = (refl, refl)

-- T6: "T1 with room for one id: 2/0"; with room for all it is accepted
abbrev t1 : List (List Word)
t1 =
    (record {
      label = 65 ∷ [];
      attributes = record { name = 97 ∷ []; scale = 48 ∷ 46 ∷ 53 ∷ [] } ∷ record { name = 98 ∷ []; scale = [] } ∷ [];
    }
    ∷ bare 66
    ∷ [])
    ∷ (record { label = 65 ∷ []; attributes = record { name = 98 ∷ []; scale = 45 ∷ 48 ∷ [] } ∷ [] } ∷ [])
    ∷ []

abbrev room_for : ℕ → Lengths
room_for ids = record { lines = 3; begins = 4; ids = ids; values = 3; references = 3; weights = 2; label_starts = 3; label_bytes = 2; name_starts = 3; name_bytes = 2; scale_starts = 4; scale_bytes = 5 }

rooms : (text_checked 21 t1 (room_for 1) ≡ refused_at 2 0) × (text_checked 21 t1 (room_for 3) ≡ Ok tt)
unfolding text_checked tables starts_from flatten learnt_all learnt id_in same lowest or_next_of refuse
rooms = (refl, refl)

-- the counts go in document 01's order
in_order : in_order_of (text_counts t1) ≡ true
in_order = refl
