-- What feature counts come to where every value is 1: the count of a State feature is a whole number, that of the entries which match it, with no rounding. The proofs are in proofs/WholeCounts.
use Rattle.std.specs.Prelude.{◌≡◌, cond, List, ℕ, zero, suc, ◌+◌, ◌^◌, ◌≤◌, ◌<◌, eqb, ltb, get_or}
use Rattle.std.specs.Float.{nan}
use Rattle.lines.specs.Passes.{start, size}
use Rattle.lines.specs.Tables.{Model, Words, State}
use Rattle.lines.specs.Counted.{counts_of}
use Rattle.binary64.specs.Numbers.{whole}
use Rattle.refusals.specs.Bounds.{the_attribute_entries, the_attributes, most}

-- f first + f (first + 1) + ..: n of them
unfoldable pub total : (ℕ → ℕ) → ℕ → ℕ → ℕ
total f first zero = 0
total f first (suc n) = total f first n + f (first + n)

module _ (m : Model) (i : ℕ) where
  -- how often feature i stands in attribute list a
  unfoldable pub times_in_list : ℕ → ℕ
  times_in_list a = total (λ place. cond (eqb (get_or m.attribute_lists_of.entries place 0) i) 1 0) (start m.attribute_lists_of.starts a) (size m.attribute_lists_of.starts a)

  -- in the list of an attribute; "An attribute id without a list is ignored"
  unfoldable pub times_for : Words → ℕ → ℕ
  times_for d a = cond (ltb (get_or d.ids a 0) m.attribute_lists_of.count) (times_in_list (get_or d.ids a 0)) 0

  -- in the lists of a word's attributes
  unfoldable pub times_at : Words → ℕ → ℕ
  times_at d word = total (times_for d) (start d.starts word) (size d.starts word)

  -- the entries of a line that match: at the words whose label is the feature's destination
  unfoldable pub matching : Words → ℕ → ℕ → List ℕ → ℕ
  matching d first words labels = total (λ word. cond (eqb (get_or m.features.destinations i 0) (get_or labels word 0)) (times_at d (first + word)) 0) 0 words

-- every attribute of a line has the value 1
abbrev pub AllOnes : Words → ℕ → ℕ → Type 0
AllOnes d first words = (word a : ℕ) → word < words → start d.starts (first + word) ≤ a → a < start d.starts (first + word + 1) → get_or d.values a nan ≡ whole 1

abbrev pub StateCountsWhole : Type 0
StateCountsWhole =
    (m : Model) (d : Words) (first words : ℕ) (labels : List ℕ) (i : ℕ) → i < m.features.count → get_or m.features.kinds i 0 ≡ State → AllOnes d first words → matching m i d first words labels ≤ 2 ^ 53 →
    get_or (counts_of m d first words labels) i nan ≡ whole (matching m i d first words labels)

-- document 01's bounds keep far below 2^53: "attributes in all: at most 4,194,304", "Entries of the attribute lists .. at most 1,048,576"
pub record CountsInBounds (m : Model) (d : Words) (first words : ℕ) : Type 0 where
  pub rising : (word : ℕ) → word < words → start d.starts (first + word) ≤ start d.starts (first + word + 1)
  pub attributes : start d.starts (first + words) ≤ most the_attributes
  pub entries : (a : ℕ) → a < m.attribute_lists_of.count → start m.attribute_lists_of.starts (a + 1) ≤ most the_attribute_entries

abbrev pub MatchingFits : Type 0
MatchingFits = (m : Model) (d : Words) (first words : ℕ) (labels : List ℕ) (i : ℕ) → CountsInBounds m d first words → matching m i d first words labels ≤ 2 ^ 53
