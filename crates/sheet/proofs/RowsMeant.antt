-- The rows of a sheet mean what `Meaning` says. Assumes nothing.
use Rattle.std.specs.Prelude.{Ok, Err}
use mathlib.Core.Path.{◌≡◌, refl, sym, ◌∙◌, ap}
use mathlib.Core.Bool.{false, not}
use mathlib.Core.List.{List, [], ◌∷◌, ◌++◌}
use mathlib.Core.Logic.Iff
use mathlib.Core.Logic.{◌↔◌, ◌⊎◌, inl, inr}
use Prim.Native.Nat.{ℕ, ◌*◌, ◌<◌, ◌≤◌}
use native.Mathlib.Omega.{arith}
use borrow.Author.Tests.{ltb-false, le-ltb, eqb-true, eq-eqb, not-false}
use lib.Dec.{eqb}
use lib.ListN.{length, get_or, take}
use lib.Seq.{get_or-take}
use Rattle.refusals.specs.Refusals.{Checked, refused_at, refuse, or_next_of, first_from, first}
use Rattle.refusals.specs.Meaning.{AllAccepted, FirstRefused}
use Rattle.refusals.proofs.Laws.{passes, neither, number_of_lem, place_of_lem, accepted_all, all_accepted, first_refused, refused_first}
use Rattle.refusals.proofs.Meant.{numbers_mean}
use Rattle.score_tables.specs.Rows.{one, four}
use Rattle.score_tables.specs.Sound.{LabelsIn, WordsIn}
use Rattle.score_tables.specs.Meaning.{Row}
use Rattle.score_tables.proofs.Order.{row, Never, not_row, why, given, of_one}
use Rattle.score_tables.proofs.Meant.{one_means, four_means, two_means, not_six, six_means, finite_to, to_finite}
use Rattle.refusal_rows.specs.Given.{OneOf}
use Rattle.sheet.specs.Fields.{mark, version_in_of, labels_in_of, words_in, whole_length_of, transitions_in_of, states_in_of}
use Rattle.sheet.specs.Rows.{wrong_head, wrong_length, head_rows, size_rows, entry_rows, file_checked}
use Rattle.sheet.specs.RowsMeaning.{RightHead, InBounds, RightLength, Meaning, SheetsMean}

-- ---- 10

-- the first three bytes, one by one
three : (bytes : List ℕ) → 8 ≤ length bytes → get_or bytes 0 0 ≡ 84 → get_or bytes 1 0 ≡ 76 → get_or bytes 2 0 ≡ 71 → take 3 bytes ≡ mark
three [] l p q r = absurd (omega arith)
three (a ∷ []) l p q r = absurd (omega arith)
three (a ∷ b ∷ []) l p q r = absurd (omega arith)
three (a ∷ b ∷ c ∷ rest) l p q r = rw (p, q, r)

pub mark_byte : (bytes : List ℕ) (i : ℕ) → i < 3 → take 3 bytes ≡ mark → get_or bytes i 0 ≡ get_or mark i 0
mark_byte bytes i l e = sym (get_or-take 3 bytes i 0 l) ∙ rw e

-- a test that two numbers differ
same : (a b : ℕ) → not (eqb a b) ≡ false → a ≡ b
same a b h = eqb-true a b (not-false (eqb a b) h)

module _ (bytes : List ℕ) where
  pub right_head : wrong_head bytes ≡ false → RightHead bytes
  right_head h =
      let v = neither _ _ h in
      let g = neither _ _ v.0 in
      let m = neither _ _ g.0 in
      let f = neither _ _ m.0 in
      let long = ltb-false (length bytes) 8 f.0 in
      record { whole = long; marked = three bytes long (same _ _ f.1) (same _ _ m.1) (same _ _ g.1); version = same _ _ v.1 }

  right_tests : RightHead bytes → wrong_head bytes ≡ false
  right_tests h =
      let a : get_or bytes 0 0 ≡ 84 = mark_byte bytes 0 (omega arith) h.marked in
      let b : get_or bytes 1 0 ≡ 76 = mark_byte bytes 1 (omega arith) h.marked in
      let c : get_or bytes 2 0 ≡ 71 = mark_byte bytes 2 (omega arith) h.marked in
      rw (le-ltb (length bytes) 8 h.whole, eq-eqb _ 84 a, eq-eqb _ 76 b, eq-eqb _ 71 c, eq-eqb (version_in_of bytes) 1 h.version)

  head_means : Row (refuse 10 0 (wrong_head bytes)) 10 (RightHead bytes)
  head_means = row 10 _ (λ h. right_head (passes 10 0 _ h)) right_tests

  length_means : Row (refuse 10 0 (wrong_length bytes)) 10 (RightLength bytes)
  length_means = row 10 _ (λ h. same _ _ (passes 10 0 _ h)) (λ e. rw (eq-eqb (length bytes) (whole_length_of bytes) e))

-- the rows of the head
pub in_bounds : (bytes : List ℕ) → AllAccepted (head_rows bytes) ↔ InBounds bytes
in_bounds bytes =
    let r10 = head_means bytes in
    let r1 = one_means (labels_in_of bytes) in
    let r4 = four_means (words_in bytes) in (
      λ a. record { head = r10.accepted.0 a.0; labels = r1.accepted.0 a.1.0; words = r4.accepted.0 a.1.1.0 },
      λ b. (r10.accepted.1 b.head, (r1.accepted.1 b.labels, (r4.accepted.1 b.words, tt))),
    )

-- ---- all rows, over a row of 2 that accepts exactly what fits

-- a row has its number and the place 0 only
own : {check : Checked} {number place k : ℕ} {Fine : Type 0} → Row check k Fine → check ≡ refused_at number place → (place ≡ 0) × (number ≡ k)
own r e = let o = r.only _ e in (place_of_lem o, number_of_lem o)

module _ (bytes : List ℕ) {room : Checked} {Fits : Type 0} (r2 : Row room 2 Fits) where
  abbrev labels : ℕ
  labels = labels_in_of bytes

  abbrev words : ℕ
  words = words_in bytes

  abbrev r10 : Row (refuse 10 0 (wrong_head bytes)) 10 (RightHead bytes)
  r10 = head_means bytes

  abbrev r1 : Row (one labels) 1 (LabelsIn labels)
  r1 = one_means labels

  abbrev r4 : Row (four words) 4 (WordsIn words)
  r4 = four_means words

  abbrev rl : Row (refuse 10 0 (wrong_length bytes)) 10 (RightLength bytes)
  rl = length_means bytes

  abbrev last : List Checked
  last = entry_rows bytes

  abbrev rest : List Checked
  rest = one labels ∷ four words ∷ size_rows bytes room ++ last

  never_six : (k : ℕ) → (6 ≡ k → ⊥) → Never k last
  never_six k d = not_six labels words (transitions_in_of bytes) (states_in_of bytes) k d

  sized : AllAccepted (head_rows bytes ++ size_rows bytes room) ↔ (InBounds bytes × Fits) × RightLength bytes
  sized = (
    λ a. (((in_bounds bytes).0 (a.0, (a.1.0, (a.1.1.0, tt))), r2.accepted.0 a.1.1.1.0), rl.accepted.0 a.1.1.1.1.0),
    λ s.
        let b = (in_bounds bytes).1 s.0.0 in
        (b.0, (b.1.0, (b.1.1.0, (r2.accepted.1 s.0.1, (rl.accepted.1 s.1, tt))))),
  )

  -- 10 on length, behind a head that is right
  late_ten : first rest ≡ refused_at 10 0 ↔ (LabelsIn labels × (WordsIn words × Fits)) × (RightLength bytes → ⊥)
  late_ten =
      given 10 0 (one labels ∷ four words ∷ room ∷ []) (refuse 10 0 (wrong_length bytes) ∷ []) last
      (not_row r1 (λ q. omega arith), (not_row r4 (λ q. omega arith), (not_row r2 (λ q. omega arith), tt)))
      (never_six 10 (λ q. omega arith)) (
        λ a. (r1.accepted.0 a.0, (r4.accepted.0 a.1.0, r2.accepted.0 a.1.1.0)),
        λ f. (r1.accepted.1 f.0, (r4.accepted.1 f.1.0, (r2.accepted.1 f.1.1, tt))),
      )
      (of_one rl)

  ten_means : first (head_rows bytes ++ (size_rows bytes room ++ last)) ≡ refused_at 10 0 ↔ (RightHead bytes → ⊥) ⊎ ((InBounds bytes × Fits) × (RightLength bytes → ⊥))
  ten_means = (λ h. to (first_refused (why 10 0) (refuse 10 0 (wrong_head bytes) ∷ rest) h), λ w. refused_first (why 10 0) (refuse 10 0 (wrong_head bytes) ∷ rest) (from w))
    where
      to : FirstRefused (why 10 0) (refuse 10 0 (wrong_head bytes) ∷ rest) → (RightHead bytes → ⊥) ⊎ ((InBounds bytes × Fits) × (RightLength bytes → ⊥))
      to (inl e) = inl (r10.refused.0 e)
      to (inr (a, f)) =
          let s = late_ten.0 (refused_first (why 10 0) rest f) in
          inr ((record { head = r10.accepted.0 a; labels = s.0.0; words = s.0.1.0 }, s.0.1.1), s.1)

      from : (RightHead bytes → ⊥) ⊎ ((InBounds bytes × Fits) × (RightLength bytes → ⊥)) → FirstRefused (why 10 0) (refuse 10 0 (wrong_head bytes) ∷ rest)
      from (inl n) = inl (r10.refused.1 n)
      from (inr ((b, f), n)) =
          inr (r10.accepted.1 b.head, first_refused (why 10 0) rest (late_ten.1 ((b.labels, (b.words, f)), n)))

  -- no other number, and no other place
  numbers_known : (number place : ℕ) → FirstRefused (why number place) (refuse 10 0 (wrong_head bytes) ∷ rest) → (number ≡ 6) ⊎ ((place ≡ 0) × OneOf (10 ∷ 1 ∷ 4 ∷ 2 ∷ []) number)
  numbers_known number place (inl e) = let o = own r10 e in inr (o.0, inl o.1)
  numbers_known number place (inr (_, inl e)) = let o = own r1 e in inr (o.0, inr (inl o.1))
  numbers_known number place (inr (_, inr (_, inl e))) = let o = own r4 e in inr (o.0, inr (inr (inl o.1)))
  numbers_known number place (inr (_, inr (_, inr (_, inl e)))) = let o = own r2 e in inr (o.0, inr (inr (inr (inl o.1))))
  numbers_known number place (inr (_, inr (_, inr (_, inr (_, inl e))))) = let o = own rl e in inr (o.0, inl o.1)
  numbers_known number place (inr (_, inr (_, inr (_, inr (_, inr (_, inl e)))))) = inl (number_of_lem ((numbers_mean (transitions_in_of bytes) (labels * labels)).only _ e))
  numbers_known number place (inr (_, inr (_, inr (_, inr (_, inr (_, inr (_, inl e))))))) = inl (number_of_lem ((numbers_mean (states_in_of bytes) (words * labels)).only _ e))
  numbers_known number place (inr (_, inr (_, inr (_, inr (_, inr (_, inr (_, inr (_, h)))))))) = absurd h

  pub file_means : Meaning (λ number place. file_checked bytes room ≡ refused_at number place) (file_checked bytes room ≡ Ok tt) bytes Fits
  unfolding file_checked
  file_means = record {
    ten = ten_means;
    one =
        given 1 0 (refuse 10 0 (wrong_head bytes) ∷ []) (one labels ∷ []) (four words ∷ size_rows bytes room ++ last)
        (not_row r10 (λ q. omega arith), tt)
        (not_row r4 (λ q. omega arith), (not_row r2 (λ q. omega arith), (not_row rl (λ q. omega arith), never_six 1 (λ q. omega arith))))
        (λ a. r10.accepted.0 a.0, λ h. (r10.accepted.1 h, tt))
        (of_one r1);
    four =
        given 4 0 (refuse 10 0 (wrong_head bytes) ∷ one labels ∷ []) (four words ∷ []) (size_rows bytes room ++ last)
        (not_row r10 (λ q. omega arith), (not_row r1 (λ q. omega arith), tt))
        (not_row r2 (λ q. omega arith), (not_row rl (λ q. omega arith), never_six 4 (λ q. omega arith)))
        (λ a. (r10.accepted.0 a.0, r1.accepted.0 a.1.0), λ f. (r10.accepted.1 f.0, (r1.accepted.1 f.1, tt)))
        (of_one r4);
    two =
        given 2 0 (head_rows bytes) (room ∷ []) (refuse 10 0 (wrong_length bytes) ∷ last)
        (not_row r10 (λ q. omega arith), (not_row r1 (λ q. omega arith), (not_row r4 (λ q. omega arith), tt)))
        (not_row rl (λ q. omega arith), never_six 2 (λ q. omega arith))
        (in_bounds bytes)
        (of_one r2);
    six = λ place.
        given 6 place (head_rows bytes ++ size_rows bytes room) last []
        (not_row r10 (λ q. omega arith), (not_row r1 (λ q. omega arith), (not_row r4 (λ q. omega arith), (not_row r2 (λ q. omega arith), (not_row rl (λ q. omega arith), tt)))))
        tt
        sized
        (six_means labels words (transitions_in_of bytes) (states_in_of bytes) place);
    only = λ number place h. numbers_known number place (first_refused (why number place) (refuse 10 0 (wrong_head bytes) ∷ rest) h);
    accepted = (
      λ h.
          let a = (all_accepted (Ok tt) (head_rows bytes ++ (size_rows bytes room ++ last)) h).1 in
          let s = sized.0 (a.0, (a.1.0, (a.1.1.0, (a.1.1.1.0, (a.1.1.1.1.0, tt))))) in (
            record {
              in_bounds = s.0.0;
              right_length = s.1;
              finite_transitions = finite_to (transitions_in_of bytes) _ a.1.1.1.1.1.0;
              finite_states = finite_to (states_in_of bytes) _ a.1.1.1.1.1.1.0;
            },
            s.0.1,
          ),
      λ f.
          let s = sized.1 ((f.0.in_bounds, f.1), f.0.right_length) in
          accepted_all (head_rows bytes ++ (size_rows bytes room ++ last)) (s.0, (s.1.0, (s.1.1.0, (s.1.1.1.0, (s.1.1.1.1.0, (to_finite (transitions_in_of bytes) _ f.0.finite_transitions, (to_finite (states_in_of bytes) _ f.0.finite_states, tt))))))),
    );
  }

-- the row of 2 is only reached where L and T are in bounds
pub same_file : (bytes : List ℕ) (x y : Checked) → (InBounds bytes → x ≡ y) → file_checked bytes x ≡ file_checked bytes y
unfolding file_checked or_next_of
same_file bytes x y h = reached (first (head_rows bytes)) x y (refuse 10 0 (wrong_length bytes) ∷ entry_rows bytes) (λ e. h ((in_bounds bytes).0 (all_accepted (Ok tt) (head_rows bytes) e).1))
  where
    reached : (answer x y : Checked) (after : List Checked) → (answer ≡ Ok tt → x ≡ y) → first_from (or_next_of answer x) after ≡ first_from (or_next_of answer y) after
    reached (Ok _) x y after e = ap (λ (c : Checked). first_from c after) (e refl)
    reached (Err w) x y after e = refl

-- the same said of another answer
pub said_so : {Is Says : ℕ → ℕ → Type 0} {Accepts Answers : Type 0} {bytes : List ℕ} {Fits : Type 0} →
    Meaning Is Accepts bytes Fits → ((number place : ℕ) → Says number place ↔ Is number place) → Answers ↔ Accepts → Meaning Says Answers bytes Fits
said_so m e a = record {
  ten = Iff.trans (e 10 0) m.ten;
  one = Iff.trans (e 1 0) m.one;
  four = Iff.trans (e 4 0) m.four;
  two = Iff.trans (e 2 0) m.two;
  six = λ place. Iff.trans (e 6 place) (m.six place);
  only = λ number place h. m.only number place ((e number place).0 h);
  accepted = Iff.trans a m.accepted;
}

pub sheets_mean : SheetsMean
sheets_mean given before = file_means given.bytes (two_means (labels_in_of given.bytes) (words_in given.bytes) before.transitions before.states)
