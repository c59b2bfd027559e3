-- Names without their backslashes. Assumes nothing.
use Rattle.std.specs.Prelude.{◌≡◌, Bool, true, false, cond, not, ◌&&◌, List, [], ◌∷◌, ℕ, eqb}
use Rattle.layout.specs.Layout.{Bytes, escaped}

-- a backslash that stands behind none
abbrev pub is_skipped : Bool → ℕ → Bool
is_skipped slashed b = eqb b 92 && not slashed

-- "`\:` stands for a colon and `\\` for a backslash": a backslash goes, and the byte behind it stays
unfoldable pub unescaped_from : Bool → Bytes → Bytes
unescaped_from slashed [] = []
unescaped_from slashed (b ∷ t) = cond (is_skipped slashed b) (unescaped_from true t) (b ∷ unescaped_from false t)

abbrev pub unescaped : Bytes → Bytes
unescaped name = unescaped_from false name

abbrev pub UnescapesBack : Type 0
UnescapesBack = (name : Bytes) → unescaped (escaped name) ≡ name
