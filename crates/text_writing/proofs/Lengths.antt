-- Lengths counted place by place. Assumes nothing.
use mathlib.Core.Path.{◌≡◌, sym, ap, ◌∙◌}
use Prim.Native.Nat.{ℕ, ◌+◌, ◌*◌, ◌-◌, ◌≤◌, ◌<◌}
use native.Mathlib.Nat.{zero-add, add-mul, one-mul, zero-mul}
use native.Mathlib.Omega.{arith}
use lib.ListN.{length, get_or}
use lib.Seq.{length-slice}
use Rattle.refusals.specs.Meaning.{Starts}
use Rattle.layout.specs.Layout.{escaped, scale_text}
use Rattle.text_tables.specs.Tables.{Strings}
use Rattle.text_tables.specs.Written.{Unwritten, string_at, written_text}
use Rattle.text_tables.proofs.Places.{lengths_none, lengths_more, length_of_tables}
use Rattle.text_writing.specs.Ready.{StringStands}
use Rattle.text_writing.proofs.Laws.{part_stands, scale_none, scale_some}
use Rattle.text_writing.specs.Sums.{sum_to, label_bytes_of, attribute_size}

-- ---- a kept text
pub no_scale_length : {s : Strings} {i from to : ℕ} → StringStands s i → from ≡ get_or s.starts i 0 → to ≡ get_or s.starts (i + 1) 0 → from ≡ to → 0 ≡ length (scale_text (string_at s i))
no_scale_length h e f same = ap length (sym (scale_none h e f same))

pub scale_length_of : {s : Strings} {i from to : ℕ} → StringStands s i → from ≡ get_or s.starts i 0 → to ≡ get_or s.starts (i + 1) 0 → (from ≡ to → ⊥) → to - from + 1 ≡ length (scale_text (string_at s i))
scale_length_of {s} {i} {from} {to} h e f apart =
    let k = part_stands h e f in
    let l = length-slice from to s.bytes k.1 in
    let m = ap length (scale_some h e f apart) in
    omega (arith, l, m)

-- ---- sums
pub sum_none : (g : ℕ → ℕ) → 0 ≡ sum_to g 0
unfolding sum_to
sum_none g = sym (lengths_none g 0)

pub sum_more : (g : ℕ → ℕ) (n : ℕ) → sum_to g (n + 1) ≡ sum_to g n + g n
unfolding sum_to
sum_more g n = lengths_more g 0 n ∙ ap (λ (k : ℕ). sum_to g n + g k) (zero-add n)

-- so many of n places are summed, each at most so much
pub record Summed (g : ℕ → ℕ) (each n i total : ℕ) : Type 0 where
  pub inside : i ≤ n
  pub same : total ≡ sum_to g i
  pub few : total ≤ i * each

pub summed_starts : (g : ℕ → ℕ) (each n : ℕ) → Summed g each n 0 0
summed_starts g each n = let z = zero-mul each in record { inside = omega arith; same = sum_none g; few = omega (arith, z) }

pub summed_more : {g : ℕ → ℕ} {each n i total one : ℕ} → Summed g each n i total → i < n → one ≡ g i → one ≤ each → Summed g each n (i + 1) (total + one)
summed_more {g} {each} {n} {i} {total} {one} h l e f =
    let m = sum_more g i in
    let t = h.same in
    let d = add-mul i 1 each in
    let o = one-mul each in
    record { inside = omega (arith, l); same = omega (arith, m, t, e); few = omega (arith, h.few, f, d, o) }

-- the bytes of a name that is known under another place
pub same_name : (s : Strings) {i j : ℕ} → i ≡ j → length (escaped (string_at s i)) ≡ length (escaped (string_at s j))
same_name s e = ap (λ (i : ℕ). length (escaped (string_at s i))) e

-- all of it
pub whole_length : (t : Unwritten) (words attributes : ℕ) → Starts t.line_starts t.instances words → Starts t.word_starts_of words attributes → {labels marks : ℕ} →
    labels ≡ sum_to (label_bytes_of t.references t.labels) words → marks ≡ sum_to (attribute_size t.ids t.names t.scales) attributes → t.instances + labels + marks ≡ length (written_text t)
unfolding sum_to
whole_length t words attributes lines begins {labels} {marks} a b = let e = length_of_tables t words attributes lines begins in omega (arith, a, b, e)
