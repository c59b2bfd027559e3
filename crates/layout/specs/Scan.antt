-- 11 and its place: an automaton over bytes, and what it has to do with the layout. Assumes nothing.
use Rattle.std.specs.Prelude.{◌≡◌, Bool, true, false, cond, ◌&&◌, [], ◌∷◌, ◌++◌, ◌↔◌, ℕ, zero, suc, ◌+◌, ◌≤◌, ◌<◌, eqb, leb, ltb, length, take, Ok, Err, Result}
use Rattle.layout.specs.declared.Mode.{Mode}
use Rattle.layout.specs.declared.Mode.TheVariants.{Begin, Inside, Slashed, Field, Value, Digits, Bad}
use Rattle.layout.specs.declared.Class.{Class}
use Rattle.layout.specs.declared.Class.TheVariants.{Tab as tab, Feed as feed, Colon as colon, Slash as slash, Minus as minus, Point as point, Digit as digit, Other as other}
use Rattle.layout.specs.Layout.{Bytes, WellFormed}

-- what a byte is to the layout
unfoldable pub class_of : ℕ → Class
class_of b =
    cond (eqb b 9) tab
    (cond (eqb b 10) feed
    (cond (eqb b 58) colon
    (cond (eqb b 92) slash
    (cond (eqb b 45) minus
    (cond (eqb b 46) point
    (cond (leb 48 b && leb b 57) digit other))))))

-- one byte more: Begin at the start of a line, Inside a name (of an attribute or not), Slashed behind its backslash, Field behind a tab,
-- Value behind the colon, Digits behind the minus or later, with how many digits and whether the point has been; Bad once nothing completes it
abbrev pub ends_scale : ℕ → Mode → Mode
ends_scale zero next = Bad
ends_scale (suc d) next = next

abbrev pub next_mode_of : Mode → Class → Mode
next_mode_of Begin tab = Bad
next_mode_of Begin feed = Begin
next_mode_of Begin colon = Bad
next_mode_of Begin slash = Slashed false
next_mode_of Begin minus = Inside false
next_mode_of Begin point = Inside false
next_mode_of Begin digit = Inside false
next_mode_of Begin other = Inside false
next_mode_of (Inside k) tab = Field
next_mode_of (Inside k) feed = Begin
next_mode_of (Inside k) colon = cond k Value Bad
next_mode_of (Inside k) slash = Slashed k
next_mode_of (Inside k) minus = Inside k
next_mode_of (Inside k) point = Inside k
next_mode_of (Inside k) digit = Inside k
next_mode_of (Inside k) other = Inside k
next_mode_of (Slashed k) tab = Bad
next_mode_of (Slashed k) feed = Bad
next_mode_of (Slashed k) colon = Inside k
next_mode_of (Slashed k) slash = Inside k
next_mode_of (Slashed k) minus = Bad
next_mode_of (Slashed k) point = Bad
next_mode_of (Slashed k) digit = Bad
next_mode_of (Slashed k) other = Bad
next_mode_of Field tab = Bad
next_mode_of Field feed = Bad
next_mode_of Field colon = Bad
next_mode_of Field slash = Slashed true
next_mode_of Field minus = Inside true
next_mode_of Field point = Inside true
next_mode_of Field digit = Inside true
next_mode_of Field other = Inside true
next_mode_of Value tab = Bad
next_mode_of Value feed = Bad
next_mode_of Value colon = Bad
next_mode_of Value slash = Bad
next_mode_of Value minus = Digits 0 false
next_mode_of Value point = Digits 0 true
next_mode_of Value digit = Digits 1 false
next_mode_of Value other = Bad
next_mode_of (Digits d p) tab = ends_scale d Field
next_mode_of (Digits d p) feed = ends_scale d Begin
next_mode_of (Digits d p) colon = Bad
next_mode_of (Digits d p) slash = Bad
next_mode_of (Digits d p) minus = Bad
next_mode_of (Digits d p) point = cond p Bad (Digits d true)
next_mode_of (Digits d p) digit = cond (ltb d 15) (Digits (d + 1) p) Bad
next_mode_of (Digits d p) other = Bad
next_mode_of Bad c = Bad

unfoldable pub mode_after : Mode → Bytes → Mode
mode_after q [] = q
mode_after q (b ∷ t) = mode_after (next_mode_of q (class_of b)) t

-- a text may end here
abbrev pub accepting : Mode → Bool
accepting Begin = true
accepting (Inside k) = true
accepting (Slashed k) = false
accepting Field = false
accepting Value = false
accepting (Digits zero p) = false
accepting (Digits (suc d) p) = true
accepting Bad = false

abbrev pub alive : Mode → Bool
alive Begin = true
alive (Inside k) = true
alive (Slashed k) = true
alive Field = true
alive Value = true
alive (Digits d p) = true
alive Bad = false

-- byte by byte from place i on: the first byte that nothing completes, or the place of the end where the text may not end there
unfoldable pub look_from : Mode → Bytes → ℕ → Result (Unit {0}) ℕ
look_from q [] i = cond (accepting q) (Ok tt) (Err i)
look_from q (b ∷ t) i = cond (alive (next_mode_of q (class_of b))) (look_from (next_mode_of q (class_of b)) t (i + 1)) (Err i)

unfoldable pub look : Bytes → Result (Unit {0}) ℕ
look t = look_from Begin t 0

-- some rest makes a well-formed text of it
abbrev pub Completable : Bytes → Type 0
Completable front = (rest : Bytes) × WellFormed (front ++ rest)

-- "the first byte after which no well-formed text is possible, or the length at the end"
pub record PlaceOf (t : Bytes) (p : ℕ) : Type 0 where
  pub malformed : WellFormed t → ⊥
  pub inside : p ≤ length t
  pub dead : p < length t → Completable (take (p + 1) t) → ⊥
  pub fronts : (n : ℕ) → n ≤ p → Completable (take n t)

abbrev pub WholeMeant : Type 0
WholeMeant = (t : Bytes) → (look t ≡ Ok tt) ↔ WellFormed t

abbrev pub PlaceMeant : Type 0
PlaceMeant = (t : Bytes) (p : ℕ) → (look t ≡ Err p) ↔ PlaceOf t p
