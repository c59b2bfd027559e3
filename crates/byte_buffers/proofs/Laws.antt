-- Laws of stored bytes and of parts that are written one after another. Assumes nothing.
use mathlib.Core.Path.{◌≡◌, refl, ◌∙◌, ap}
use mathlib.Core.List.{List, [], ◌∷◌, ◌++◌, append_assoc}
use Prim.Native.Nat.{ℕ, suc, ◌+◌, ◌≤◌}
use native.Mathlib.Numerals.{add-one}
use native.Mathlib.Nat.{add-zero}
use native.Mathlib.Omega.{arith}
use lib.ListN.{length, set, take, drop, length-set, length-append}
use lib.Seq.{sets, sets-eq, set_comm}
use Rattle.byte_buffers.specs.Stored.{stored, RoomFor, Put, Written}

-- ---- stored bytes

pub length_stored : (l : List ℕ) (at : ℕ) (s : List ℕ) → length (stored l at s) ≡ length l
unfolding stored
length_stored l at [] = refl
length_stored l at (a ∷ s) = length_stored (set l at a) (at + 1) s ∙ length-set l at a

-- one part, then the next
pub stored_append : (l : List ℕ) (at : ℕ) (s t : List ℕ) → stored l at (s ++ t) ≡ stored (stored l at s) (at + length s) t
unfolding stored
stored_append l at [] t = rw add-zero
stored_append l at (a ∷ s) t = let e : at + suc (length s) ≡ at + 1 + length s = omega arith in rw e (stored_append (set l at a) (at + 1) s t)

-- one byte
pub stored_one : (l : List ℕ) (at a : ℕ) → set l at a ≡ stored l at (a ∷ [])
unfolding stored
stored_one l at a = refl

-- a byte past a part may come before it
pub stored_past : (l : List ℕ) (at : ℕ) (s : List ℕ) (j a : ℕ) → at + length s ≤ j → set (stored l at s) j a ≡ stored (set l j a) at s
unfolding stored
stored_past l at [] j a h = refl
stored_past l at (b ∷ s) j a h =
    let d : at ≡ j → ⊥ = λ e. omega arith in
    rw (← set_comm l at j b a d) (stored_past (set l at b) (at + 1) s j a (omega arith))

-- a whole text, from the front
stored_sets : (l : List ℕ) (at : ℕ) (s : List ℕ) → stored l at s ≡ sets l at s
unfolding stored
stored_sets l at [] = refl
stored_sets l at (a ∷ s) = rw add-one (stored_sets (set l at a) (suc at) s)

-- over the places of a part
pub stored_over : (l : List ℕ) (at : ℕ) (s : List ℕ) → at + length s ≤ length l → stored l at s ≡ take at l ++ (s ++ drop (at + length s) l)
stored_over l at s h = stored_sets l at s ∙ sets-eq s l at h ∙ append_assoc (take at l) s (drop (at + length s) l)

pub stored_front : (l s : List ℕ) → length s ≤ length l → stored l 0 s ≡ s ++ drop (length s) l
stored_front l s h = let e : 0 + length s ≡ length s = omega arith in stored_sets l 0 s ∙ sets-eq s l 0 (rw e h) ∙ rw e

-- ---- parts, one behind another

-- one part written, then the next
pub put_then : {p q l k m : List ℕ} {at mid end : ℕ} → Put p l at mid k → Put q k mid end m → Put (p ++ q) l at end m
put_then {p} {q} {l} {k} {m} {at} {mid} {end} a b =
    record {
      next = rw (length-append p q) (omega (arith, a.next, b.next));
      line = b.line ∙ rw (stored_append l at p q, ← a.next, ← a.line);
    }

pub put_length : {p l k : List ℕ} {at end : ℕ} → Put p l at end k → length k ≡ length l
put_length {p} {l} {k} {at} a = ap length a.line ∙ length_stored l at p

-- a part by another name
pub put_as : {p q l k : List ℕ} {at end : ℕ} → p ≡ q → Put p l at end k → Put q l at end k
put_as e a = rw e at a

pub room_as : {p q l : List ℕ} {at : ℕ} → p ≡ q → RoomFor p l at → RoomFor q l at
room_as e h = rw e at h

-- the room of a part, and what it leaves to the next
pub room_first : {l : List ℕ} {at : ℕ} (p q : List ℕ) → RoomFor (p ++ q) l at → RoomFor p l at
room_first p q h = let r = rw (length-append p q) at h.room in record { room = omega arith }

pub room_next : {p l k : List ℕ} {at mid : ℕ} (q : List ℕ) → Put p l at mid k → RoomFor (p ++ q) l at → RoomFor q k mid
room_next {p} {l} {k} {at} q a h =
    let e = put_length a in
    let r = rw (length-append p q) at h.room in
    record { room = omega (arith, a.next) }

-- nothing more
pub put_nothing : {p l : List ℕ} {at : ℕ} → p ≡ [] → Put p l at at l
unfolding stored
put_nothing h = record { next = rw (h, add-zero); line = rw h }

-- a whole text
pub put_line : {text l k : List ℕ} {end : ℕ} → RoomFor text l 0 → Put text l 0 end k → Written text l end k
put_line {text} {l} {k} {end} h a = record { counted = omega (arith, a.next); written = a.line ∙ stored_front l text (omega (arith, h.room)) }
