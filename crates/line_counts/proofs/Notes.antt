-- A note more, once the notes are added, is the entry's step of counting. Assumes nothing.
use mathlib.Core.Bool.{Bool, true, false, cond, ◌&&◌, and-true, and-false}
use mathlib.Core.Path.{◌≡◌, refl, ap, ◌∙◌}
use mathlib.Core.List.{List}
use Prim.Native.Nat.{ℕ, ◌+◌, ◌≤◌, ◌<◌}
use native.Mathlib.Omega.{arith}
use lib.Dec.{eqb}
use lib.ListN.{get_or, set, length, length-set}
use lib.Seq.{get_or-set_same, get_or-set_other}
use borrow.Author.Tests.{eqb-true, eqb-false}
use lib.Ieee.{Float, nan}
use Rattle.lines.specs.Passes.{raised}
use Rattle.lines.specs.Tables.{Model, State}
use Rattle.lines.specs.Counted.{state_count}
use Rattle.lines.proofs.Laws.{through_none, through_more, through_cong}
use Rattle.line_counts.specs.Noted.{note_added, notes_added, Notes}

-- no notes
pub settled_none : (kinds who : List ℕ) (what : List Float) (counts : List Float) → counts ≡ notes_added kinds who what 0 counts
unfolding notes_added
settled_none kinds who what counts = through_none (note_added kinds who what) 0 counts

module _ (kinds who : List ℕ) (what : List Float) (n i : ℕ) (v : Float) (h : n < length who) (k : n < length what) where
  -- what is noted past the notes does not matter
  past : (counts : List Float) → notes_added kinds (set who n i) (set what n v) n counts ≡ notes_added kinds who what n counts
  unfolding notes_added note_added
  past counts =
      through_cong (note_added kinds (set who n i) (set what n v)) (note_added kinds who what) 0 n counts (λ j l t.
      let d : 0 + j ≡ n → ⊥ = λ e. omega arith in
      rw (get_or-set_other who n (0 + j) i 0 d, get_or-set_other what n (0 + j) v nan d))

  -- the note itself
  one_more : (counts : List Float) → notes_added kinds (set who n i) (set what n v) (n + 1) counts ≡ cond (eqb (get_or kinds i 0) State) (raised (notes_added kinds who what n counts) i v) (notes_added kinds who what n counts)
  unfolding notes_added note_added
  one_more counts =
      through_more (note_added kinds (set who n i) (set what n v)) n counts
      ∙ rw (get_or-set_same who n i 0 h, get_or-set_same what n v nan k) (ap (λ (s : List Float). cond (eqb (get_or kinds i 0) State) (raised s i v) s) (past counts))

  -- noted, and kept where the entry is of the label
  pub noted_step : (b : Bool) (r : ℕ) (counts : List Float) → r ≡ cond b (n + 1) n →
      notes_added kinds (set who n i) (set what n v) r counts ≡ cond (eqb (get_or kinds i 0) State && b) (raised (notes_added kinds who what n counts) i v) (notes_added kinds who what n counts)
  noted_step true r counts e = rw (e, and-true) (one_more counts)
  noted_step false r counts e = rw (e, and-false) (past counts)

-- what `note` leaves are notes
pub still_notes : {features : ℕ} {who : List ℕ} {what : List Float} {n : ℕ} (i : ℕ) (v : Float) (b : Bool) {who' : List ℕ} {what' : List Float} {r : ℕ} → Notes features who what n → n < length who → i < features →
    who' ≡ set who n i → what' ≡ set what n v → r ≡ cond b (n + 1) n → Notes features who' what' r
still_notes {features} {who} {what} {n} i v b {r = r} p h k e f g =
    record {
      there = rw (e, length-set who n i) (omega (arith, most b g));
      level = rw (e, f, length-set who n i, length-set what n v) p.level;
      ids = λ j l. rw e (each j (eqb j n) refl (omega (arith, most b g, l)));
    }
  where
    most : (b : Bool) → r ≡ cond b (n + 1) n → r ≤ n + 1
    most true q = omega (arith, q)
    most false q = omega (arith, q)

    each : (j : ℕ) (t : Bool) → eqb j n ≡ t → j < n + 1 → get_or (set who n i) j 0 < features
    each j true q l = rw (eqb-true j n q, get_or-set_same who n i 0 h) k
    each j false q l =
        let d : j ≡ n → ⊥ = eqb-false j n q in
        rw (get_or-set_other who n j i 0 d) (p.ids j (omega (arith, d)))

-- and once they are added the entry has counted
pub entry_noted : (m : Model) (label : ℕ) (v : Float) (e : ℕ) (who : List ℕ) (what : List Float) (n : ℕ) (counts : List Float) {who' : List ℕ} {what' : List Float} {r : ℕ} → n < length who → n < length what →
    who' ≡ set who n (get_or m.attribute_lists_of.entries e 0) → what' ≡ set what n v → r ≡ cond (eqb (get_or m.features.destinations (get_or m.attribute_lists_of.entries e 0) 0) label) (n + 1) n →
    notes_added m.features.kinds who' what' r counts ≡ state_count m label v e (notes_added m.features.kinds who what n counts)
unfolding state_count
entry_noted m label v e who what n counts h k p q s =
    rw (p, q) (noted_step m.features.kinds who what n (get_or m.attribute_lists_of.entries e 0) v h k (eqb (get_or m.features.destinations (get_or m.attribute_lists_of.entries e 0) 0) label) _ counts s)

-- what the loops over entries, attributes and words keep of the notes
pub record Going (features : ℕ) (who : List ℕ) (what : List Float) (noted : ℕ) : Type 0 where
  pub notes : Notes features who what noted
  pub free : noted < length who
