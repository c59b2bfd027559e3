-- 11 in the writer: "A name the layout cannot carry: the empty one, and one with a tab or a line feed. .. A scale it cannot carry: a text that is not empty
-- and is no scale". As tests that compute, and in plain terms; that both are the same is proved in proofs/Carried. Assumes nothing.
use Rattle.std.specs.Prelude.{◌≡◌, Bool, true, false, cond, not, ◌&&◌, ◌||◌, List, [], ◌∷◌, ◌↔◌, ◌⊎◌, ℕ, ◌+◌, ◌≤◌, ◌<◌, eqb, ltb, leb}
use Rattle.std.proofs.Math.Seq.{slice}
use Rattle.refusals.specs.Refusals.{Checked, lowest}
use Rattle.refusals.specs.Tables.{outside}
use Rattle.refusals.specs.Meaning.{FirstBad}
use Rattle.layout.specs.Layout.{Bytes, Name, KeptText}
use Rattle.text_tables.specs.Tables.{Strings}
use Rattle.text_tables.specs.Written.{string_at}

-- a tab or a line feed
unfoldable pub unclean : Bytes → Bool
unclean [] = false
unclean (b ∷ name) = eqb b 9 || eqb b 10 || unclean name

abbrev pub nothing : Bytes → Bool
nothing [] = true
nothing (b ∷ t) = false

abbrev pub no_name : Bytes → Bool
no_name name = nothing name || unclean name

-- behind the minus: so many points and digits so far, and what is left
unfoldable pub no_scale_from : ℕ → ℕ → Bytes → Bool
no_scale_from points digits [] = outside 1 15 digits || ltb 1 points
no_scale_from points digits (b ∷ t) = cond (eqb b 46) (no_scale_from (points + 1) digits t) (cond (leb 48 b && leb b 57) (no_scale_from points (digits + 1) t) true)

unfoldable pub behind_minus : Bytes → Bytes
behind_minus [] = []
behind_minus (b ∷ t) = cond (eqb b 45) t (b ∷ t)

abbrev pub no_scale : Bytes → Bool
no_scale t = no_scale_from 0 0 (behind_minus t)

-- where the digits of the bytes from one place up to another begin
pub record Digitwise (bytes : Bytes) (from to first : ℕ) : Type 0 where
  pub inside : first ≤ to
  pub same : slice first to bytes ≡ behind_minus (slice from to bytes)

abbrev pub not_kept : Bytes → Bool
not_kept t = not (nothing t) && no_scale t

abbrev pub NamesMean : Type 0
NamesMean = (name : Bytes) → no_name name ≡ false ↔ Name name

abbrev pub KeptMeans : Type 0
KeptMeans = (t : Bytes) → not_kept t ≡ false ↔ KeptText t

-- ---- a table of n names, or of n kept texts
pub data Carry : Type 0 where
  named : (s : Strings) (n : ℕ) → Carry
  kept : (s : Strings) (n : ℕ) → Carry

abbrev pub names_checked : Strings → ℕ → Checked
names_checked s n = lowest 11 (λ (i : ℕ). no_name (string_at s i)) n

abbrev pub scales_checked : Strings → ℕ → Checked
scales_checked s n = lowest 11 (λ (i : ℕ). not_kept (string_at s i)) n

-- 11 | a name or scale the layout cannot carry | "its place the index in its table"
abbrev pub carried : Carry → Checked
carried (named s n) = names_checked s n
carried (kept s n) = scales_checked s n

abbrev pub carries : List Carry → List Checked
carries [] = []
carries (test ∷ tests) = carried test ∷ carries tests

-- the same in plain terms
abbrev pub rows_in : Carry → ℕ
rows_in (named s n) = n
rows_in (kept s n) = n

abbrev pub Uncarried : Carry → ℕ → Type 0
Uncarried (named s n) i = Name (string_at s i) → ⊥
Uncarried (kept s n) i = KeptText (string_at s i) → ⊥

abbrev pub EachCarried : Carry → Type 0
EachCarried (named s n) = (i : ℕ) → i < n → Name (string_at s i)
EachCarried (kept s n) = (i : ℕ) → i < n → KeptText (string_at s i)

abbrev pub AllCarried : List Carry → Type 0
AllCarried [] = Unit
AllCarried (test ∷ tests) = EachCarried test × AllCarried tests

-- "labels, then attributes, then scales": the first place of the first table that has one
abbrev pub FirstUncarried : List Carry → ℕ → Type 0
FirstUncarried [] place = ⊥
FirstUncarried (test ∷ tests) place = FirstBad (Uncarried test) (rows_in test) place ⊎ (EachCarried test × FirstUncarried tests place)
