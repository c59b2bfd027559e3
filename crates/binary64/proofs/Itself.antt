-- A number minus itself is +0 where it is finite, else a NaN: so one comparison tells whether two numbers are finite. Assumes nothing.
use mathlib.Core.Path.{◌≡◌, refl, sym}
use mathlib.Core.Bool.{Bool, true, false, not, cond, ◌&&◌}
use Prim.Native.Nat.{ℕ, ◌*◌, ◌<◌}
use native.Mathlib.Nat.{zero-mul, sub_self, le_refl, mul-pos}
use native.Mathlib.Omega.{arith}
use borrow.Author.Tests.{le-ltb}
use lib.Ieee.{Float, nan, inf, fin, binary64, sub, eq, sum, round, up, down}
use lib.Ieee.Fits.{down_pos}
use lib.Ieee.Scale.{finite, round_same}
use Rattle.binary64.specs.Numbers.{nought}

nothing : (c : ℕ) → 0 < c → round binary64 false 0 c ≡ nought
unfolding round
nothing c h = round_same binary64 false 0 c 0 1 h (omega arith) (sym (zero-mul c))

cancelled : (s : Bool) (a c : ℕ) → 0 < c → sum binary64 s a (not s) a c ≡ nought
unfolding sum
cancelled true a c h = rw (le-ltb a a (le_refl a), sub_self) (nothing c h)
cancelled false a c h = rw (le-ltb a a (le_refl a), sub_self) (nothing c h)

minus_itself : (x : Float) → sub binary64 x x ≡ cond (finite x) nought nan
unfolding sub
minus_itself nan = refl
minus_itself (inf true) = refl
minus_itself (inf false) = refl
minus_itself (fin s m e) = cancelled s (m * up e * down e) (down e * down e) (mul-pos (down_pos e) (down_pos e))

pub two_finite : (x y : Float) → eq (sub binary64 x x) (sub binary64 y y) ≡ finite x && finite y
unfolding eq
two_finite x y = rw (minus_itself x, minus_itself y) (go (finite x) (finite y))
  where
    go : (a b : Bool) → eq (cond a nought nan) (cond b nought nan) ≡ a && b
    go true true = refl
    go true false = refl
    go false true = refl
    go false false = refl
