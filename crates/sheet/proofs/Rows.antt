-- The rows of the sheet as the inner functions take them, and what a sheet that they accept gives. Assumes nothing.
use Rattle.std.specs.Prelude.{Ok, Err}
use mathlib.Core.Path.{◌≡◌, refl, sym, ap, ◌∙◌}
use mathlib.Core.List.{List, [], ◌∷◌, ◌++◌}
use Prim.Native.Nat.{ℕ, ◌*◌, ◌≤◌}
use borrow.Author.Tests.{ltb-false, eqb-true, not-false}
use lib.ListN.{length}
use Rattle.refusals.specs.declared.Refusal.{Refusal}
use Rattle.refusals.specs.Refusals.{Checked, refuse, or_next_of, first}
use Rattle.refusals.specs.Tables.{numbers_checked}
use Rattle.refusals.proofs.Laws.{settled, both, all_accepted, neither, passes}
use Rattle.score_tables.specs.Rows.{one, four, bounds_checked}
use Rattle.score_tables.specs.Sound.{ScoresSized}
use Rattle.score_tables.proofs.Laws.{sized}
use Rattle.sheet.specs.Fields.{labels_in_of, words_in, whole_length_of, transitions_in_of, states_in_of}
use Rattle.sheet.specs.Rows.{Lent, wrong_head, wrong_length, head_rows, size_rows, entry_rows, file_sized, file_checked, tables_short, sheet_checked}

-- the answer so far, then two checks that were put together
pub together : (answer check next : Checked) → or_next_of answer (or_next_of check next) ≡ or_next_of (or_next_of answer check) next
unfolding or_next_of
together (Ok _) check next = refl
together (Err why) check next = refl

-- a head that is accepted has its eight bytes
long_head : (bytes : List ℕ) → refuse 10 0 (wrong_head bytes) ≡ Ok tt → 8 ≤ length bytes
long_head bytes h = ltb-false (length bytes) 8 (neither _ _ (neither _ _ (neither _ _ (neither _ _ (passes 10 0 (wrong_head bytes) h)).0).0).0).0

-- the rows as far as 4
unfoldable pub head_checked : List ℕ → Checked
head_checked bytes = first (head_rows bytes)

module _ (bytes : List ℕ) (room : Checked) where
  -- a refusal of the head is the file's
  pub head_refused : (why : Refusal) → head_checked bytes ≡ Err why → Err why ≡ file_sized bytes room
  unfolding head_checked file_sized
  head_refused why h = sym (settled _ (size_rows bytes room) why h)

  -- 1 and 4 as one check
  pub sizes_in_order : first (or_next_of (Ok tt) (refuse 10 0 (wrong_head bytes)) ∷ bounds_checked (labels_in_of bytes) (words_in bytes) ∷ or_next_of (Ok tt) room ∷ or_next_of (Ok tt) (refuse 10 0 (wrong_length bytes)) ∷ []) ≡ file_sized bytes room
  unfolding file_sized or_next_of
  sizes_in_order = ap (λ (c : Checked). or_next_of (or_next_of c room) (refuse 10 0 (wrong_length bytes))) (together (refuse 10 0 (wrong_head bytes)) (one (labels_in_of bytes)) (four (words_in bytes)))

  -- a refusal of the sizes is the file's
  pub sizes_refused : (why : Refusal) → file_sized bytes room ≡ Err why → Err why ≡ file_checked bytes room
  unfolding file_sized file_checked
  sizes_refused why h = sym (settled _ (entry_rows bytes) why h)

  pub sizes_passed : or_next_of (or_next_of (file_sized bytes room) (numbers_checked (transitions_in_of bytes) (labels_in_of bytes * labels_in_of bytes))) (numbers_checked (states_in_of bytes) (words_in bytes * labels_in_of bytes)) ≡ file_checked bytes room
  unfolding file_sized file_checked
  sizes_passed = refl

module _ (bytes : List ℕ) (before : Lent) where
  -- what accepted sizes give
  pub record Sizes : Type 0 where
    pub long : 8 ≤ length bytes
    pub room : ScoresSized (labels_in_of bytes) (words_in bytes) before.transitions before.states
    pub exact : length bytes ≡ whole_length_of bytes

  pub sizes : file_sized bytes (tables_short bytes before) ≡ Ok tt → Sizes
  unfolding file_sized
  sizes h =
      let a = (all_accepted (Ok tt) (head_rows bytes ++ size_rows bytes (tables_short bytes before)) h).1 in
      record {
        long = long_head bytes a.0;
        room = sized a.1.0 a.1.1.0 a.1.1.1.0;
        exact = eqb-true (length bytes) (whole_length_of bytes) (not-false _ (passes 10 0 (wrong_length bytes) a.1.1.1.1.0));
      }

  -- what an accepted sheet gives
  pub record Accepts : Type 0 where
    pub sizes_in : Sizes
    pub transitions_in : numbers_checked (transitions_in_of bytes) (labels_in_of bytes * labels_in_of bytes) ≡ Ok tt
    pub states_in : numbers_checked (states_in_of bytes) (words_in bytes * labels_in_of bytes) ≡ Ok tt

  pub accepts : sheet_checked (record { bytes = bytes }) before ≡ Ok tt → Accepts
  accepts h =
      let b = both _ _ (sizes_passed bytes (tables_short bytes before) ∙ h) in
      let a = both _ _ b.0 in
      record { sizes_in = sizes a.0; transitions_in = a.1; states_in = b.1 }
