-- 8 means what `Meaning` says. Assumes nothing.
use Rattle.std.specs.Prelude.{Ok, Err}
use mathlib.Core.Path.{◌≡◌, refl, sym, ◌∙◌}
use mathlib.Core.Bool.{Bool, true, false, not, ◌&&◌, false≢true}
use mathlib.Core.List.{[], ◌∷◌}
use mathlib.Core.Logic.{inl, inr, ⊎_elim}
use Prim.Native.Nat.{ℕ, ◌+◌, ◌*◌}
use native.Mathlib.Omega.{arith}
use borrow.Author.Tests.{not-true, not-false}
use lib.Dec.{T}
use lib.ListN.{get_or}
use lib.Ieee.{nan}
use lib.Ieee.Scale.{finite}
use Rattle.refusals.specs.declared.Refusal.{Refusal}
use Rattle.refusals.specs.Refusals.{Checked, refused_at, or_next_of}
use Rattle.refusals.specs.Tables.{not_finite}
use Rattle.refusals.proofs.Laws.{never, both, either, number_of_lem, place_of_lem}
use Rattle.refusals.proofs.Meant.{accepted_means, accepted_if, exactly}
use Rattle.fronts.specs.Finite.{NotFinite, all_finite_of}
use Rattle.refusal_rows.specs.Given.{OneOf}
use Rattle.finished.specs.Rows.{finished_checked, placed_after, scores_finished}
use Rattle.finished.specs.Meaning.{CountsFinishedMean, EightAt, in_states, in_transitions, ScoresFinishedMean, TestsAccept, EightIsLast}
use Rattle.finished.proofs.Laws.{test_accepts}

holds : (b : Bool) → not b ≡ false → T b
holds b h = rw (not-false b h) tt

fails : (b : Bool) → T b → not b ≡ false
fails true t = refl
fails false t = absurd t

pub counts_mean : CountsFinishedMean
counts_mean counts features =
    let x = exactly 8 (not_finite counts) features (NotFinite counts) (λ i. (not-true (finite (get_or counts i nan)), λ h. rw h)) in
    record {
      accepted = (λ h i l. holds (finite (get_or counts i nan)) (accepted_means 8 (not_finite counts) features h i l), λ f. accepted_if 8 (not_finite counts) features (λ i l. fails (finite (get_or counts i nan)) (f i l)));
      refused = x.refused;
      only = λ why h. number_of_lem (x.only why h);
    }

-- ---- places that are counted on

abbrev place_in : Checked → ℕ
place_in (Ok _) = 0
place_in (Err why) = why.place

not_placed : (others : ℕ) (check : Checked) → placed_after others check ≡ Ok tt → check ≡ Ok tt
not_placed others (Ok _) h = refl
not_placed others (Err why) h = never h refl

placed_at : (others place : ℕ) (check : Checked) → placed_after others check ≡ refused_at 8 place → (place ≡ others + place_in check) × (check ≡ refused_at 8 (place_in check))
placed_at others place (Ok _) h = never refl h
placed_at others place (Err why) h = let n : why.number ≡ 8 = number_of_lem h in (sym (place_of_lem h), rw n)

placed_only : (others : ℕ) (check : Checked) (why : Refusal) → ((w : Refusal) → check ≡ Err w → w.number ≡ 8) → placed_after others check ≡ Err why → why.number ≡ 8
placed_only others (Ok _) why only h = never refl h
placed_only others (Err w) why only h = number_of_lem (sym h) ∙ only w refl

pub scores_mean : ScoresFinishedMean
unfolding scores_finished or_next_of
scores_mean labels words states transitions =
    let n = words * labels in
    let m = labels * labels in
    let s = counts_mean states n in
    let t = counts_mean transitions m in
    let first : Checked = finished_checked states n in
    let second : Checked = finished_checked transitions m in
    record {
      accepted = (
        λ h. let b = both first (placed_after n second) h in (s.accepted.0 b.0, t.accepted.0 (not_placed n second b.1)),
        λ f. rw (s.accepted.1 f.0, t.accepted.1 f.1),
      );
      refused = λ place. (
        λ h.
            ⊎_elim
            (λ e. in_states ((s.refused place).0 e))
            (λ p. let w = placed_at n place second p.1 in in_transitions (s.accepted.0 p.0) (place_in second) w.0 ((t.refused (place_in second)).0 w.1))
            (either first (placed_after n second) _ h),
        λ a. from place a,
      );
      only = λ why h. ⊎_elim (λ e. s.only why e) (λ p. placed_only n second why t.only p.1) (either first (placed_after n second) why h);
    }
  where
    from : (place : ℕ) → EightAt labels words states transitions place → scores_finished labels words states transitions ≡ refused_at 8 place
    from place (in_states f) = rw (((counts_mean states (words * labels)).refused place).1 f)
    from place (in_transitions finite entry e f) = rw ((counts_mean states (words * labels)).accepted.1 finite, ((counts_mean transitions (labels * labels)).refused entry).1 f, e)

-- two tests that hold together
pub both_true : (p q : Bool) → p && q ≡ true → (p ≡ true) × (q ≡ true)
both_true true q e = (refl, e)
both_true false q e = absurd (false≢true e)

pub tests_accept : TestsAccept
unfolding scores_finished or_next_of
tests_accept labels words states transitions =
    let n = words * labels in
    let m = labels * labels in
    let s = test_accepts states n in
    let t = test_accepts transitions m in (
      λ h. let b = both (finished_checked states n) (placed_after n (finished_checked transitions m)) h in rw (s.0 b.0, t.0 (not_placed n (finished_checked transitions m) b.1)),
      λ h. let b = both_true (all_finite_of states n) (all_finite_of transitions m) h in rw (s.1 b.0, t.1 b.1),
    )

pub eight_is_last : EightIsLast
unfolding or_next_of
eight_is_last checked finished fine at apart e = record {
  eight = λ place. (
    λ h. ⊎_elim (λ c. absurd (apart _ c refl)) (λ p. (p.0, (e.refused place).0 p.1)) (either checked finished _ h),
    λ p. rw p.0 ((e.refused place).1 p.1),
  );
  before = λ why d. (λ h. ⊎_elim (λ c. c) (λ p. absurd (d (e.only why p.1))) (either checked finished why h), λ c. rw c);
  accepted = (λ h. let b = both checked finished h in (b.0, e.accepted.0 b.1), λ p. rw p.0 (e.accepted.1 p.1));
}

-- the numbers that a call on a line gives beforehand are others
pub not_eight : (number : ℕ) → OneOf (1 ∷ 4 ∷ 2 ∷ 3 ∷ 5 ∷ 6 ∷ []) number → number ≡ 8 → ⊥
not_eight number (inl e) h = omega arith
not_eight number (inr (inl e)) h = omega arith
not_eight number (inr (inr (inl e))) h = omega arith
not_eight number (inr (inr (inr (inl e)))) h = omega arith
not_eight number (inr (inr (inr (inr (inl e))))) h = omega arith
not_eight number (inr (inr (inr (inr (inr (inl e)))))) h = omega arith
not_eight number (inr (inr (inr (inr (inr (inr e)))))) h = e
