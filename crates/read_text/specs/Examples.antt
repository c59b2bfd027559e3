-- Desk cases T1, T3 and T6 of the promises: what any outcome of a reading that keeps it is, and any answer of the sizes. Assumes nothing.
use Rattle.refusals.specs.declared.Refusal.{Refusal}
use Rattle.read_text.specs.declared.TextSizes.{TextSizes}
use Rattle.std.specs.Prelude.{◌≡◌, refl, true, false, ℕ, ◌≤◌, replicate, Result}
use Rattle.std.proofs.Common.{arith}
use mathlib.Core.List.{List, [], ◌∷◌, flatten}
use Rattle.binary64.specs.Numbers.{nought}
use Rattle.refusals.specs.Refusals.{numbered, refuse, or_next_of, lowest}
use Rattle.refusals.specs.Said.{accepted, refused}
use Rattle.layout.specs.Layout.{Bytes, Line, empty, word, Scale, point, none, SoundText, text_of, more_lines, line_text, attributes_text, escaped, scale_text, sequences_from}
use Rattle.text_tables.specs.Distinct.{same, id_in, learnt, learnt_all}
use Rattle.text_tables.specs.Tables.{starts_from, tables}
use Rattle.text_check.specs.Rows.{text_sized, text_checked}
use Rattle.read_text.specs.Promise.{Buffers, Outcome, said, Promised}
use Rattle.read_text.specs.Sizes.{SizesPromised}

-- tables with room for this many ids, and for everything else that T1 needs
abbrev lent : ℕ → Buffers
lent ids = record {
  line_starts = replicate 3 7;
  word_starts_of = replicate 4 7;
  ids = replicate ids 7;
  values = replicate 3 nought;
  references = replicate 3 7;
  weights = replicate 2 nought;
  label_starts_of = replicate 3 7;
  label_bytes_of = replicate 2 7;
  name_starts_of = replicate 3 7;
  name_bytes_of = replicate 2 7;
  scale_starts_of = replicate 4 7;
  scale_bytes_of = replicate 5 7;
}

-- T1: `A␉a:0.5␉b␊B␊␊␊A␉b:-0␊`
abbrev t1 : Bytes
t1 = 65 ∷ 9 ∷ 97 ∷ 58 ∷ 48 ∷ 46 ∷ 53 ∷ 9 ∷ 98 ∷ 10 ∷ 66 ∷ 10 ∷ 10 ∷ 10 ∷ 65 ∷ 9 ∷ 98 ∷ 58 ∷ 45 ∷ 48 ∷ 10 ∷ []

abbrev t1_lines : List Line
t1_lines =
    word (record {
      label = 65 ∷ [];
      attributes = record { name = 97 ∷ []; scale = 48 ∷ 46 ∷ 53 ∷ [] } ∷ record { name = 98 ∷ []; scale = [] } ∷ [];
    })
    ∷ word (record { label = 66 ∷ []; attributes = [] })
    ∷ empty
    ∷ empty
    ∷ word (record { label = 65 ∷ []; attributes = record { name = 98 ∷ []; scale = 45 ∷ 48 ∷ [] } ∷ [] })
    ∷ empty
    ∷ []

half : Scale (48 ∷ 46 ∷ 53 ∷ [])
half = record { minus = false; whole = 48 ∷ []; part = point (53 ∷ []); made = refl; whole_digits = (omega arith, omega arith, tt); part_digits = (omega arith, omega arith, tt); some = omega arith; few = omega arith }

less_zero : Scale (45 ∷ 48 ∷ [])
less_zero = record { minus = true; whole = 48 ∷ []; part = none; made = refl; whole_digits = (omega arith, omega arith, tt); part_digits = tt; some = omega arith; few = omega arith }

clean : (b : ℕ) → 11 ≤ b → (b ≡ 9 → ⊥) × (b ≡ 10 → ⊥) × Unit {0}
clean b h = (λ e. omega (arith, e, h), λ e. omega (arith, e, h), tt)

t1_sound : SoundText t1_lines
t1_sound = (
  (clean 65 (omega arith), (clean 97 (omega arith), half, (clean 98 (omega arith), tt, tt))),
  ((clean 66 (omega arith), tt), (tt, (tt, ((clean 65 (omega arith), (clean 98 (omega arith), less_zero, tt)), (tt, tt))))),
)

t1_made : text_of t1_lines ≡ t1
unfolding text_of more_lines line_text attributes_text escaped scale_text
t1_made = refl

-- T1: accepted, with these sizes; T6: "with room for one id: 2/0", and nothing is written
t1_read : (outcome : Outcome) → Promised t1 (lent 3) outcome →
    said outcome.answer ≡ accepted (record { labels = 2; names = 2; instances = 2; words = 3; attributes = 3; label_bytes = 2; name_bytes = 2; scale_bytes = 5 })
unfolding text_checked tables sequences_from starts_from flatten learnt_all learnt id_in same lowest or_next_of refuse
t1_read outcome p = (p.whole t1_lines t1_sound t1_made).answers

t6_refused : (outcome : Outcome) → Promised t1 (lent 1) outcome → (said outcome.answer ≡ refused (numbered 2 0)) × (outcome.after ≡ lent 1)
unfolding text_checked tables sequences_from starts_from flatten learnt_all learnt id_in same lowest or_next_of refuse
t6_refused outcome p = ((p.whole t1_lines t1_sound t1_made).answers, (p.whole t1_lines t1_sound t1_made).after)

-- T3: "the empty text .. 2/0"
t3_refused : (before : Buffers) (outcome : Outcome) → Promised [] before outcome → (said outcome.answer ≡ refused (numbered 2 0)) × (outcome.after ≡ before)
unfolding text_of more_lines line_text text_checked tables sequences_from starts_from flatten learnt_all learnt id_in same lowest or_next_of refuse
t3_refused before outcome p = ((p.whole (empty ∷ []) (tt, tt) refl).answers, (p.whole (empty ∷ []) (tt, tt) refl).after)

-- T1 and T3 of the sizes, which need no table
t1_sized : (answer : Result TextSizes Refusal) → SizesPromised t1 answer →
    said answer ≡ accepted (record { labels = 2; names = 2; instances = 2; words = 3; attributes = 3; label_bytes = 2; name_bytes = 2; scale_bytes = 5 })
unfolding text_sized tables sequences_from starts_from flatten learnt_all learnt id_in same lowest or_next_of refuse
t1_sized answer p = p.whole t1_lines t1_sound t1_made

t3_sized : (answer : Result TextSizes Refusal) → SizesPromised [] answer → said answer ≡ refused (numbered 2 0)
unfolding text_of more_lines line_text text_sized tables sequences_from starts_from flatten learnt_all learnt id_in same lowest or_next_of refuse
t3_sized answer p = p.whole (empty ∷ []) (tt, tt) refl
