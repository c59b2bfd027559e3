-- The parts of names, scales and lists one by one. Assumes nothing.
use mathlib.Core.Path.{◌≡◌, refl, sym, ap, ◌∙◌}
use mathlib.Core.Bool.{Bool, true, false, cond, ◌||◌}
use mathlib.Core.List.{List, [], ◌∷◌, ◌++◌, map, flatten, append_assoc}
use Prim.Native.Nat.{ℕ, suc, ◌+◌, ◌-◌, ◌≤◌, ◌<◌}
use native.Mathlib.Omega.{arith}
use lib.Dec.{eqb}
use lib.ListN.{length, get_or, drop, drop_of_length-le}
use lib.Seq.{slice, length-slice}
use Rattle.std.specs.Prelude.{count_by}
use Rattle.std.proofs.lemmas.List.Sums.{sum_by-cons}
use Rattle.lines.specs.Passes.{start, size}
use Rattle.layout.specs.Layout.{Bytes, escaped, scale_text}
use Rattle.byte_buffers.specs.Stored.{RoomFor}
use Rattle.pieces.proofs.Parts.{here, slice_lent}
use Rattle.text_tables.specs.Tables.{Strings}
use Rattle.text_tables.specs.Written.{Unwritten, string_at, places_from, places_in, attribute_from, attribute_text, label_from, written_text}
use Rattle.text_tables.proofs.Places.{word_by_places, sequence_by_places, text_by_places}
use Rattle.text_writing.specs.Ready.{StringStands, attribute_bytes, word_bytes, sequence_bytes, each_from}

-- ---- strings

-- a string of a list is the part from its start to the next
pub string_part : (s : Strings) (i : ℕ) → slice (get_or s.starts i 0) (get_or s.starts (i + 1) 0) s.bytes ≡ string_at s i
unfolding string_at
string_part s i = slice_lent s.bytes (get_or s.starts i 0) (get_or s.starts (i + 1) 0)

pub part_is : {s : Strings} {i from to : ℕ} → StringStands s i → from ≡ get_or s.starts i 0 → to ≡ get_or s.starts (i + 1) 0 → slice from to s.bytes ≡ string_at s i
part_is {s} {i} h e f = rw (e, f) (string_part s i)

pub part_stands : {s : Strings} {i from to : ℕ} → StringStands s i → from ≡ get_or s.starts i 0 → to ≡ get_or s.starts (i + 1) 0 → (from ≤ to) × (to ≤ length s.bytes)
part_stands h e f = (omega (arith, e, f, h.list.rises), omega (arith, f, h.ends))

-- the same part under another name
pub room_as : {x y l : Bytes} {at : ℕ} → x ≡ y → RoomFor y l at → RoomFor x l at
room_as {x} {y} {l} {at} e h = record { room = rw e h.room }

pub name_as : (s : Strings) {i j : ℕ} → i ≡ j → escaped (string_at s i) ≡ escaped (string_at s j)
name_as s e = ap (λ (i : ℕ). escaped (string_at s i)) e

-- ---- a name's next byte, with a backslash or not

marked : (b : ℕ) (n : Bytes) → eqb b 58 || eqb b 92 ≡ true → escaped (b ∷ n) ≡ 92 ∷ b ∷ escaped n
unfolding escaped
marked b n h = rw h refl

unmarked : (b : ℕ) (n : Bytes) → eqb b 58 || eqb b 92 ≡ false → escaped (b ∷ n) ≡ b ∷ escaped n
unfolding escaped
unmarked b n h = rw h refl

no_name : escaped [] ≡ []
unfolding escaped
no_name = refl

abbrev pub special : ℕ → Bool
special b = eqb b 58 || eqb b 92

pub name_special : (name : Bytes) (i : ℕ) → i < length name → special (get_or name i 0) ≡ true → escaped (drop i name) ≡ 92 ∷ get_or name i 0 ∷ escaped (drop (i + 1) name)
name_special name i h s = ap escaped (here name i h) ∙ marked (get_or name i 0) (drop (i + 1) name) s

pub name_plain : (name : Bytes) (i : ℕ) → i < length name → special (get_or name i 0) ≡ false → escaped (drop i name) ≡ get_or name i 0 ∷ escaped (drop (i + 1) name)
name_plain name i h s = ap escaped (here name i h) ∙ unmarked (get_or name i 0) (drop (i + 1) name) s

pub name_over : (name : Bytes) (i : ℕ) → length name ≤ i → escaped (drop i name) ≡ []
name_over name i h = ap escaped (drop_of_length-le name {i = i} h) ∙ no_name

-- a name with its backslashes has so many bytes more
pub escaped_count : (name : Bytes) → length name + count_by special name ≡ length (escaped name)
escaped_count [] = sym (ap length no_name)
escaped_count (b ∷ name) = go (special b) refl (sum_by-cons (λ (x : ℕ). cond (special x) 1 0) b name) (escaped_count name)
  where
    go : (x : Bool) → special b ≡ x → count_by special (b ∷ name) ≡ cond (special b) 1 0 + count_by special name → length name + count_by special name ≡ length (escaped name)
        → length (b ∷ name) + count_by special (b ∷ name) ≡ length (escaped (b ∷ name))
    go true s e f = omega (arith, ap length (marked b name s), ap {B = ℕ} (λ (x : Bool). cond x 1 0) s, e, f)
    go false s e f = omega (arith, ap length (unmarked b name s), ap {B = ℕ} (λ (x : Bool). cond x 1 0) s, e, f)

-- ---- the text of a kept scale

pub no_scale : (t : Bytes) → length t ≡ 0 → scale_text t ≡ []
unfolding scale_text
no_scale [] h = refl
no_scale (b ∷ t) h = absurd (omega (arith, h))

pub some_scale : (t : Bytes) → 0 < length t → scale_text t ≡ 58 ∷ t
unfolding scale_text
some_scale [] h = absurd (omega (arith, h))
some_scale (b ∷ t) h = refl

-- a string of no bytes, and one of some
pub scale_none : {s : Strings} {i from to : ℕ} → StringStands s i → from ≡ get_or s.starts i 0 → to ≡ get_or s.starts (i + 1) 0 → from ≡ to → scale_text (string_at s i) ≡ []
scale_none {s} {i} {from} {to} h e f same =
    let k = part_stands h e f in
    let l = length-slice from to s.bytes k.1 in
    no_scale (string_at s i) (ap length (sym (part_is h e f)) ∙ omega (arith, l, same))

pub scale_some : {s : Strings} {i from to : ℕ} → StringStands s i → from ≡ get_or s.starts i 0 → to ≡ get_or s.starts (i + 1) 0 → (from ≡ to → ⊥)
    → scale_text (string_at s i) ≡ (58 ∷ []) ++ slice from to s.bytes
scale_some {s} {i} {from} {to} h e f apart =
    let k = part_stands h e f in
    let l = length-slice from to s.bytes k.1 in
    let m = ap length (part_is h e f) in
    some_scale (string_at s i) (omega (arith, l, m, k.0, apart)) ∙ ap (λ (t : Bytes). 58 ∷ t) (sym (part_is h e f))

-- ---- several one behind the other

pub each_first : (f : ℕ → Bytes) (i to : ℕ) → i < to → each_from f i (to - i) ≡ f i ++ each_from f (i + 1) (to - (i + 1))
unfolding places_from flatten each_from
each_first f i to h =
    let e : to - i ≡ suc (to - (i + 1)) = omega (arith, h) in
    ap (λ (n : ℕ). each_from f i n) e

pub each_over : (f : ℕ → Bytes) (i to : ℕ) → to ≤ i → each_from f i (to - i) ≡ []
unfolding places_from flatten each_from
each_over f i to h =
    let e : to - i ≡ 0 = omega (arith, h) in
    ap (λ (n : ℕ). each_from f i n) e

-- those of a list, from its start to the next
pub each_list : (f : ℕ → Bytes) (starts : List ℕ) (i : ℕ) {first end : ℕ} → first ≡ get_or starts i 0 → end ≡ get_or starts (i + 1) 0 → each_from f first (end - first) ≡ each_from f (start starts i) (size starts i)
each_list f starts i e h = λ k. each_from f (e k) (h k - e k)

-- ---- a word and a sequence in their parts, each in front of what comes behind it

pub word_parts : (t : Unwritten) (w : ℕ) →
    word_bytes t w ≡ escaped (label_from t w) ++ (each_from (attribute_bytes t.ids t.names t.scales) (start t.word_starts_of w) (size t.word_starts_of w) ++ (10 ∷ []))
unfolding each_from
word_parts t w =
    word_by_places t w
    ∙ append_assoc (escaped (label_from t w)) (flatten (map (λ (a : ℕ). attribute_text (attribute_from t a)) (places_in t.word_starts_of w))) (10 ∷ [])

pub sequence_parts : (t : Unwritten) (i : ℕ) → sequence_bytes t i ≡ each_from (word_bytes t) (start t.line_starts i) (size t.line_starts i) ++ (10 ∷ [])
unfolding each_from
sequence_parts t i = sequence_by_places t i

pub sequence_next : (t : Unwritten) (i n : ℕ) → i < n →
    each_from (sequence_bytes t) i (n - i) ≡ each_from (word_bytes t) (start t.line_starts i) (size t.line_starts i) ++ ((10 ∷ []) ++ each_from (sequence_bytes t) (i + 1) (n - (i + 1)))
sequence_next t i n h =
    let rest : Bytes = each_from (sequence_bytes t) (i + 1) (n - (i + 1)) in
    let words : Bytes = each_from (word_bytes t) (start t.line_starts i) (size t.line_starts i) in
    each_first (sequence_bytes t) i n h ∙ ap (λ (x : Bytes). x ++ rest) (sequence_parts t i) ∙ append_assoc words (10 ∷ []) rest

pub text_parts : (t : Unwritten) → written_text t ≡ each_from (sequence_bytes t) 0 t.instances
unfolding each_from
text_parts t = text_by_places t
