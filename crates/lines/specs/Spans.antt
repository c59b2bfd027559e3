-- An attribute of a word, and where the entries of its list stand, as code reads them. Assumes nothing.
use Rattle.std.specs.Prelude.{cond, List, ℕ, ◌+◌, ◌-◌, ◌≤◌, ◌<◌, min, ltb, get_or, length, Float}
use Rattle.std.specs.Float.{nan}
use Rattle.lines.specs.declared.Attribute.{Attribute}
use Rattle.lines.specs.declared.Span.{Span}
use Rattle.lines.specs.Passes.{through, start}

-- the attribute at a place before the end, and past that the last one
unfoldable pub attribute_before_of : List ℕ → List Float → ℕ → ℕ → Attribute
attribute_before_of ids values end a = let i = min a (end - 1) in record { id = get_or ids i 0; value = get_or values i nan }

-- the places of list id, of so many lists; none where there is no such list
unfoldable pub span_of : ℕ → List ℕ → ℕ → Span
span_of lists starts id = cond (ltb id lists) (record { first = start starts id; last = start starts (id + 1) }) (record { first = 0; last = 0 })

-- s after a step at each of the places
abbrev pub through_span : {S : Type 0} → (ℕ → S → S) → Span → S → S
through_span step span s = through step span.first (span.last - span.first) s

-- the places are within the entries, which are below a bound up to the last
pub record SoundSpan (span : Span) (entries : List ℕ) (features : ℕ) : Type 0 where
  pub within : span.last ≤ length entries
  pub ids : (e : ℕ) → e < span.last → get_or entries e 0 < features
