-- A window of a text, and what a walk through a name in it answers. Assumes nothing.
use Rattle.std.specs.Prelude.{◌≡◌, Bool, true, false, List, ℕ, ◌+◌, ◌≤◌, length, drop}
use Rattle.layout.specs.declared.Mode.{Mode}
use Rattle.layout.specs.declared.Mode.TheVariants.{Inside, Slashed}
use Rattle.layout.specs.Scan.{look_from}
use Rattle.look.specs.declared.Stop.{Stop}

-- at most 64 bytes: so many calls one inside the other, and no more
pub record Window (text : List ℕ) (at end : ℕ) : Type 0 where
  pub forward : at ≤ end
  pub inside : end ≤ length text
  pub short : end ≤ at + 64

abbrev pub name_mode : Bool → Bool → Mode
name_mode slashed k = elim slashed [ true ↦ Slashed k | false ↦ Inside k ]

-- to look on from where the walk stopped finds the same
pub record WalkedTo (text : List ℕ) (slashed : Bool) (at end : ℕ) (r : Stop) : Type 0 where
  pub forward : at ≤ r.at
  pub inside : r.at ≤ end
  pub same : (k : Bool) → look_from (name_mode slashed k) (drop at text) at ≡ look_from (name_mode r.slashed k) (drop r.at text) r.at

-- plain characters all the way: to look on from there finds the same, of a label and of an attribute
pub record Passed (text : List ℕ) (at end : ℕ) (r : ℕ) : Type 0 where
  pub forward : at ≤ r
  pub inside : r ≤ end
  pub same : (k : Bool) → look_from (Inside k) (drop at text) at ≡ look_from (Inside k) (drop r text) r
