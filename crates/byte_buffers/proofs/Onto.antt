-- Writing one part after another in a loop, and bytes from one place up to another. Assumes nothing.
use mathlib.Core.Path.{◌≡◌, refl, sym, ap, ◌∙◌}
use mathlib.Core.List.{List, [], ◌∷◌, ◌++◌, append-nil}
use Prim.Native.Nat.{ℕ, ◌+◌, ◌≤◌, ◌<◌}
use native.Mathlib.Nat.{le_antisymm}
use native.Mathlib.Numerals.{add-one}
use native.Mathlib.Omega.{arith}
use lib.ListN.{length, get_or, set, length-set, length-append}
use lib.Seq.{slice, slice-cons, slice_empty}
use Rattle.byte_buffers.specs.Stored.{stored, RoomFor, Put}
use Rattle.byte_buffers.proofs.Laws.{length_stored, stored_append}

-- ---- what is left to write, and all of it: to write what is left gives the same as to write all from the start
pub record Onto (left all : List ℕ) (k at : ℕ) (out before : List ℕ) : Type 0 where
  pub long : length out ≡ length before
  pub room : at + length all ≤ length before
  pub place : k + length left ≡ at + length all
  pub same : stored out k left ≡ stored before at all

pub onto_starts : {all out : List ℕ} {at : ℕ} → RoomFor all out at → Onto all all at at out out
onto_starts r = record { long = refl; room = r.room; place = refl; same = refl }

pub onto_as : {left others all out before : List ℕ} {k at : ℕ} → left ≡ others → Onto left all k at out before → Onto others all k at out before
onto_as {left} {others} {all} {out} {before} {k} {at} e g = record {
  long = g.long;
  room = g.room;
  place = ap (λ (t : List ℕ). k + length t) (sym e) ∙ g.place;
  same = ap (stored out k) (sym e) ∙ g.same;
}

-- one byte
pub onto_room : {b : ℕ} {left all out before : List ℕ} {k at : ℕ} → Onto (b ∷ left) all k at out before → k < length out
onto_room g = omega (arith, g.place, g.room, g.long)

pub onto_byte : {b : ℕ} {left all out before : List ℕ} {k at : ℕ} → Onto (b ∷ left) all k at out before → Onto left all (k + 1) at (set out k b) before
onto_byte {b} {left} {all} {out} {before} {k} g = record {
  long = length-set out k b ∙ g.long;
  room = g.room;
  place = omega (arith, g.place);
  same = one out k b left ∙ g.same;
}
  where
    one : (out : List ℕ) (k b : ℕ) (t : List ℕ) → stored (set out k b) (k + 1) t ≡ stored out k (b ∷ t)
    one out k b t = unfold stored in refl

pub onto_two : {a b : ℕ} {left all out before : List ℕ} {k at : ℕ} → Onto (a ∷ b ∷ left) all k at out before → Onto left all (k + 2) at (set (set out k a) (k + 1) b) before
onto_two {a} {b} {left} {all} {out} {before} {k} {at} g =
    let two : k + 1 + 1 ≡ k + 2 = omega arith in
    rw two at (onto_byte (onto_byte g))

-- one part
pub onto_part : (part left : List ℕ) {all out before : List ℕ} {k at : ℕ} → Onto (part ++ left) all k at out before → RoomFor part out k
onto_part part left g = let l = length-append part left in record { room = omega (arith, l, g.place, g.room, g.long) }

pub onto_put : (part left : List ℕ) {all out before after : List ℕ} {k at end : ℕ} → Put part out k end after → Onto (part ++ left) all k at out before → Onto left all end at after before
onto_put part left {all} {out} {before} {after} {k} p g =
    let l = length-append part left in
    record {
      long = ap length p.line ∙ length_stored out k part ∙ g.long;
      room = g.room;
      place = omega (arith, l, p.next, g.place);
      same = rw (p.next, p.line) (sym (stored_append out k part left) ∙ g.same);
    }

-- the end
pub onto_over : {all out before : List ℕ} {k at : ℕ} → Onto [] all k at out before → Put all before at k out
onto_over {all} {out} {before} {k} g = record { next = omega (arith, g.place); line = nothing out k ∙ g.same }
  where
    nothing : (out : List ℕ) (k : ℕ) → out ≡ stored out k []
    nothing out k = unfold stored in refl

-- the last part
pub onto_whole : {part all out before : List ℕ} {k at : ℕ} → Onto part all k at out before → RoomFor part out k
onto_whole g = record { room = omega (arith, g.place, g.room, g.long) }

pub onto_last : (part : List ℕ) {all out before after : List ℕ} {k at end : ℕ} → Put part out k end after → Onto part all k at out before → Put all before at end after
onto_last part p g = onto_over (onto_put part [] p (onto_as (sym (append-nil part)) g))

-- ---- bytes from one place up to another

pub part_next : (bytes : List ℕ) (i to : ℕ) → i < to → to ≤ length bytes → slice i to bytes ≡ get_or bytes i 0 ∷ slice (i + 1) to bytes
part_next bytes i to h k = slice-cons i to bytes 0 h k ∙ ap (λ (j : ℕ). get_or bytes i 0 ∷ slice j to bytes) (sym (add-one i))

pub part_over : (bytes : List ℕ) (i to : ℕ) → i ≤ to → to ≤ i → slice i to bytes ≡ []
part_over bytes i to h k = ap (λ (j : ℕ). slice j to bytes) (le_antisymm h k) ∙ slice_empty to bytes
