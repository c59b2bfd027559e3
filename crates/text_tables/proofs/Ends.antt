-- Writes at the end of what is built in a table, the rest of the table being as it was. Assumes nothing.
use mathlib.Core.Path.{◌≡◌, refl, sym, ap, ◌∙◌}
use mathlib.Core.List.{List, [], ◌∷◌, ◌++◌, append-nil}
use Prim.Native.Nat.{ℕ, ◌+◌, ◌≤◌, ◌<◌}
use native.Mathlib.Nat.{not-suc-le-zero, le_of_eq}
use native.Mathlib.Omega.{arith}
use lib.ListN.{length, set, take, drop, length-append, length-drop, drop_of_length-le}
use lib.Seq.{set-append_seam, append_snoc, drop-drop, take_at, drop-append-add}
use Rattle.text_tables.specs.Laid.{laid}

module _ {A : Type 0} where
  -- one write at the end of a front
  pub write_behind : (built rest : List A) (v : A) → 0 < length rest → set (built ++ rest) (length built) v ≡ (built ++ (v ∷ [])) ++ drop 1 rest
  write_behind built [] v h = absurd (not-suc-le-zero h)
  write_behind built (r ∷ rest) v h = set-append_seam built r rest v ∙ sym (append_snoc built v rest)

  -- nothing is built yet
  pub laid_none : (before : List A) → before ≡ laid [] before
  unfolding laid
  laid_none before = refl

  -- one more
  pub laid_more : (built before : List A) (i : ℕ) (v : A) {t : List A} → t ≡ laid built before → i ≡ length built → i < length before → set t i v ≡ laid (built ++ (v ∷ [])) before
  unfolding laid
  laid_more built before i v e p h =
      let room : 0 < length (drop (length built) before) = rw (length-drop (length built) before) (omega (arith, h, p)) in
      rw (e, p) (write_behind built (drop (length built) before) v room)
      ∙ ap (λ (rest : List A). (built ++ (v ∷ [])) ++ rest) (drop-drop 1 (length built) before ∙ ap (λ (k : ℕ). drop k before) (sym (length-append built (v ∷ []))))

  -- several, written from i on
  pub laid_run : (built before run : List A) (i : ℕ) {t : List A} → t ≡ laid built before → i ≡ length built → take i t ++ run ++ drop (i + length run) t ≡ laid (built ++ run) before
  unfolding laid
  laid_run built before run i e p =
      let rest : List A = drop (length built) before in
      rw (e, p)
      (ap (λ (front : List A). front ++ run ++ drop (length built + length run) (built ++ rest)) (take_at built rest (length built) refl)
      ∙ ap (λ (end : List A). built ++ run ++ end) (drop-append-add built rest (length run) ∙ drop-drop (length run) (length built) before ∙ ap (λ (k : ℕ). drop k before) (sym (length-append built run))))

  -- the table keeps its length
  pub laid_length : (front before : List A) → length front ≤ length before → length (laid front before) ≡ length before
  unfolding laid
  laid_length front before h = length-append front (drop (length front) before) ∙ ap (λ (k : ℕ). length front + k) (length-drop (length front) before) ∙ omega (arith, h)

  -- and where the front is as long as the table, it is the table
  pub laid_all : (front before : List A) → length before ≡ length front → laid front before ≡ front
  unfolding laid
  laid_all front before e = ap (λ (rest : List A). front ++ rest) (drop_of_length-le before (le_of_eq e)) ∙ append-nil front
