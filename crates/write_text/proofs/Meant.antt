-- What the writer answers means what `Meaning` says: the check's rows, and the answer that tells them. Assumes nothing.
use Rattle.std.specs.Prelude.{Ok, Err}
use mathlib.Core.Path.{◌≡◌, refl, sym, ap, ◌∙◌}
use mathlib.Core.Bool.{Bool, true, false, not, ◌&&◌}
use mathlib.Core.List.{List, [], ◌∷◌, ◌++◌}
use mathlib.Core.Logic.{◌↔◌, ◌⊎◌, inl, inr, ⊎_elim}
use Prim.Native.Nat.{ℕ}
use borrow.Author.Tests.{eqb-false}
use lib.Dec.{T, eqb}
use lib.ListN.{length}
use Rattle.refusals.specs.declared.Refusal.{Refusal}
use Rattle.refusals.specs.Refusals.{Checked, refused_at, numbered, first}
use Rattle.refusals.specs.Meaning.{AllAccepted, FirstRefused}
use Rattle.refusals.specs.Said.{accepted, or_refused}
use Rattle.refusals.proofs.Laws.{all_accepted, accepted_all, first_refused, refused_first}
use Rattle.refusals.proofs.Said.{refused_said, accepted_said}
use Rattle.score_tables.proofs.Meant.{one_means}
use Rattle.refusal_rows.specs.Given.{OneOf}
use Rattle.refusal_rows.proofs.Means.{two_means}
use Rattle.refusal_rows.proofs.Groups.{Group, single, tested, given_first, given_after, accepted_when, given_only}
use Rattle.refusal_rows.proofs.TableGroups.{pair}
use Rattle.text_tables.specs.Written.{written_text}
use Rattle.write_check.specs.Rows.{Unchecked, written_counts, written_rooms, written_starts, written_lengths, written_ids, text_room, written_carries, read_rows, text_rows, write_checked}
use Rattle.write_text.specs.Promise.{checked_of, answer_to}
use Rattle.write_text.specs.Meaning.{ReadFine, Meaning, WritingMeans, AnswersMean}
use Rattle.write_text.proofs.Elevens.{elevens}

-- ---- checks in two parts: the first refuses, or it accepts and the second does
module _ (why : Refusal) where
  split : (xs ys : List Checked) → FirstRefused why (xs ++ ys) → FirstRefused why xs ⊎ (AllAccepted xs × FirstRefused why ys)
  split [] ys h = inr (tt, h)
  split (x ∷ xs) ys (inl e) = inl (inl e)
  split (x ∷ xs) ys (inr p) = ⊎_elim (λ r. inl (inr (p.0, r))) (λ r. inr ((p.0, r.0), r.1)) (split xs ys p.1)

  early : (xs ys : List Checked) → FirstRefused why xs → FirstRefused why (xs ++ ys)
  early [] ys h = absurd h
  early (x ∷ xs) ys (inl e) = inl e
  early (x ∷ xs) ys (inr p) = inr (p.0, early xs ys p.1)

  late : (xs ys : List Checked) → AllAccepted xs → FirstRefused why ys → FirstRefused why (xs ++ ys)
  late [] ys a h = h
  late (x ∷ xs) ys a h = inr (a.0, late xs ys a.1 h)

  halves : (xs ys : List Checked) → first (xs ++ ys) ≡ Err why ↔ (first xs ≡ Err why) ⊎ ((first xs ≡ Ok tt) × (first ys ≡ Err why))
  halves xs ys = (
    λ h. ⊎_elim (λ r. inl (refused_first why xs r)) (λ r. inr (accepted_all xs r.0, refused_first why ys r.1)) (split xs ys (first_refused why (xs ++ ys) h)),
    λ s.
        refused_first why (xs ++ ys)
        (⊎_elim (λ e. early xs ys (first_refused why xs e)) (λ p. late xs ys (all_accepted (Ok tt) xs p.0).1 (first_refused why ys p.1)) s),
  )

-- none of these numbers: a test that computes
abbrev absent : ℕ → List ℕ → Bool
absent k [] = true
absent k (n ∷ ns) = not (eqb k n) && absent k ns

none_of : (k : ℕ) (ns : List ℕ) → T (absent k ns) → OneOf ns k → ⊥
none_of k [] t h = h
none_of k (n ∷ ns) t h = go (none_of k ns) (eqb k n) refl t h
  where
    go : (T (absent k ns) → OneOf ns k → ⊥) → (b : Bool) → eqb k n ≡ b → T (not b && absent k ns) → OneOf (n ∷ ns) k → ⊥
    go others true q t h = absurd t
    go others false q t (inl e) = eqb-false k n q e
    go others false q t (inr h) = others t h

module _ (g : Unchecked) (have : ℕ) where
  abbrev ones : Group
  ones = single (one_means g.labels)

  abbrev twos : Group
  twos = pair (two_means (written_counts g)) (two_means (written_rooms g))

  abbrev threes : Group
  threes = tested 3 (written_starts g) (refl, (refl, (refl, (refl, (refl, tt)))))

  abbrev fours : Group
  fours = tested 4 (written_lengths g) (refl, tt)

  abbrev fives : Group
  fives = tested 5 (written_ids g) (refl, (refl, tt))

  abbrev room : Group
  room = single (two_means (text_room g have))

  abbrev last : Group
  last = elevens (written_carries g)

  abbrev reads : List Group
  reads = ones ∷ twos ∷ threes ∷ fours ∷ fives ∷ []

  abbrev all : List Group
  all = ones ∷ twos ∷ threes ∷ fours ∷ fives ∷ room ∷ last ∷ []

  -- a number of the tables that are read, of the text alone, and of both
  of_reads : (k place : ℕ) {Q : Type 0} → T (absent k (2 ∷ 11 ∷ [])) → first (read_rows g) ≡ refused_at k place ↔ Q → write_checked g have ≡ refused_at k place ↔ Q
  unfolding write_checked
  of_reads k place t m =
      let h = halves (numbered k place) (read_rows g) (text_rows g have) in (
        λ e. ⊎_elim m.0 (λ p. absurd (none_of k (2 ∷ 11 ∷ []) t (given_only (numbered k place) (room ∷ last ∷ []) p.1))) (h.0 e),
        λ q. h.1 (inl (m.1 q)),
      )

  of_text : (k place : ℕ) {Q : Type 0} → T (absent k (1 ∷ 2 ∷ 3 ∷ 4 ∷ 5 ∷ [])) → first (text_rows g have) ≡ refused_at k place ↔ Q → write_checked g have ≡ refused_at k place ↔ ReadFine g × Q
  unfolding write_checked
  of_text k place t m =
      let h = halves (numbered k place) (read_rows g) (text_rows g have) in (
        λ e. ⊎_elim (λ a. absurd (none_of k (1 ∷ 2 ∷ 3 ∷ 4 ∷ 5 ∷ []) t (given_only (numbered k place) reads a))) (λ p. ((accepted_when reads).0 p.0, m.0 p.1)) (h.0 e),
        λ q. h.1 (inr ((accepted_when reads).1 q.0, m.1 q.1)),
      )

  of_both : (k place : ℕ) {P Q : Type 0} → first (read_rows g) ≡ refused_at k place ↔ P → first (text_rows g have) ≡ refused_at k place ↔ Q → write_checked g have ≡ refused_at k place ↔ P ⊎ (ReadFine g × Q)
  unfolding write_checked
  of_both k place a b =
      let h = halves (numbered k place) (read_rows g) (text_rows g have) in (
        λ e. ⊎_elim (λ x. inl (a.0 x)) (λ p. inr ((accepted_when reads).0 p.0, b.0 p.1)) (h.0 e),
        λ q. h.1 (⊎_elim (λ x. inl (a.1 x)) (λ p. inr ((accepted_when reads).1 p.0, b.1 p.1)) q),
      )

  pub meant : Meaning (λ number place. write_checked g have ≡ refused_at number place) (write_checked g have ≡ Ok tt) g have
  unfolding write_checked
  meant = record {
    one = λ place. of_reads 1 place tt (given_first place ones (twos ∷ threes ∷ fours ∷ fives ∷ []) tt);
    two = λ place. of_both 2 place (given_after place (ones ∷ []) twos (threes ∷ fours ∷ fives ∷ []) tt tt) (given_first place room (last ∷ []) tt);
    three = λ place. of_reads 3 place tt (given_after place (ones ∷ twos ∷ []) threes (fours ∷ fives ∷ []) tt tt);
    four = λ place. of_reads 4 place tt (given_after place (ones ∷ twos ∷ threes ∷ []) fours (fives ∷ []) tt tt);
    five = λ place. of_reads 5 place tt (given_after place (ones ∷ twos ∷ threes ∷ fours ∷ []) fives [] tt tt);
    eleven = λ place. of_text 11 place tt (given_after place (room ∷ []) last [] tt tt);
    only = λ number place. given_only (numbered number place) all;
    accepted = (
      λ h. let a = (accepted_when all).0 h in ((a.0, (a.1.0, (a.1.1.0, (a.1.1.1.0, a.1.1.1.1.0)))), (a.1.1.1.1.1.0, a.1.1.1.1.1.1)),
      λ p. let r = p.0 in (accepted_when all).1 (r.0, (r.1.0, (r.1.1.0, (r.1.1.1.0, (r.1.1.1.1, (p.1.0, p.1.1)))))),
    );
  }

pub writing_means : WritingMeans
writing_means = meant

-- another way to answer, which tells the same
pub told :
    {Refuses Answers : ℕ → ℕ → Type 0} {Accepts Accepted : Type 0} {g : Unchecked} {have : ℕ} →
    ((number place : ℕ) → Answers number place ↔ Refuses number place) →
    Accepted ↔ Accepts →
    Meaning Refuses Accepts g have →
    Meaning Answers Accepted g have
told w a m = record {
  one = λ place. (λ h. (m.one place).0 ((w 1 place).0 h), λ f. (w 1 place).1 ((m.one place).1 f));
  two = λ place. (λ h. (m.two place).0 ((w 2 place).0 h), λ f. (w 2 place).1 ((m.two place).1 f));
  three = λ place. (λ h. (m.three place).0 ((w 3 place).0 h), λ f. (w 3 place).1 ((m.three place).1 f));
  four = λ place. (λ h. (m.four place).0 ((w 4 place).0 h), λ f. (w 4 place).1 ((m.four place).1 f));
  five = λ place. (λ h. (m.five place).0 ((w 5 place).0 h), λ f. (w 5 place).1 ((m.five place).1 f));
  eleven = λ place. (λ h. (m.eleven place).0 ((w 11 place).0 h), λ f. (w 11 place).1 ((m.eleven place).1 f));
  only = λ number place h. m.only number place ((w number place).0 h);
  accepted = (λ h. m.accepted.0 (a.0 h), λ f. a.1 (m.accepted.1 f));
}

pub answers_mean : AnswersMean
unfolding answer_to
answers_mean given before outcome promised =
    let length_of : ℕ = length (written_text given.tables) in
    let checked = checked_of given before in
    told
    (λ number place. (
      λ h. (refused_said length_of checked (numbered number place)).0 (sym promised.answers ∙ h),
      λ h. promised.answers ∙ (refused_said length_of checked (numbered number place)).1 h,
    )) (
      λ h. accepted_said length_of h.0 checked (sym promised.answers ∙ h.1),
      λ h. (length_of, promised.answers ∙ ap (λ (c : Checked). or_refused c (accepted length_of)) h),
    )
    (meant given (length before))
