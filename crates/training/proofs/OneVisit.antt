-- One visit, by how it ends: unchanged where the labels agree, updated where they differ, refused; and what it leaves alone. Assumes nothing.
use mathlib.Core.Path.{◌≡◌, refl, sym, ap, ◌∙◌}
use mathlib.Core.Bool.{Bool, true, false, cond, ◌&&◌, true≢false}
use mathlib.Core.Logic.{◌⊎◌, inl, inr}
use mathlib.Core.List.{List}
use Prim.Native.Nat.{ℕ, zero, suc, ◌+◌, ◌*◌, ◌≤◌, ◌<◌}
use native.Mathlib.Nat.{zero-add, not-suc-le-zero, eq-or-lt_of_le, le_of_suc-le-suc}
use native.Mathlib.Omega.{arith}
use borrow.Author.Tests.{eqb-true, eqb-false, eq-eqb}
use lib.Dec.{eqb}
use lib.ListN.{get_or}
use Rattle.training.specs.declared.Visit.TheVariants.{Unchanged, Updated}
use Rattle.lines.specs.Passes.{through}
use Rattle.lines.specs.Tables.{Model}
use Rattle.lines.specs.Scored.{states_of, transitions_of}
use Rattle.lines.specs.Counted.{counts_of}
use Rattle.lines.specs.Data.{Data, first_word, words_of, reference_of}
use Rattle.training.specs.Wrong.{wrong_at, wrong_of}
use Rattle.fronts.specs.Finite.{all_finite_of}
use Rattle.training.specs.Rules.{Rule, Mistake, updated_by}
use Rattle.training.specs.Visits.{TrainingState, refused_as, unchanged, changed_to, finite_state, held_to, corrected, compared, visited}
use Rattle.training.specs.Epochs.{is_refused}
use Rattle.training.specs.Accepted.{is_updated}
use Rattle.training.specs.OneVisit.{predicted_for, LabelsAgree, NothingLearned, VisitsEndByLabels, AgreeingChangesNothing, RefusedChangesNothing}

-- ---- in no word wrong, and the labels agree at every word: the same
module _ (p q : List ℕ) where
  pub agree_none : (words : ℕ) → ((word : ℕ) → word < words → get_or p word 0 ≡ get_or q word 0) → wrong_of p q words ≡ 0
  unfolding wrong_of wrong_at through
  agree_none zero h = refl
  agree_none (suc words) h =
      rw (eq-eqb (get_or p (0 + words) 0) (get_or q (0 + words) 0) (h (0 + words) (omega arith)))
      (agree_none words (λ word k. h word (omega arith)))

  pub none_agree : (words : ℕ) → wrong_of p q words ≡ 0 → (word : ℕ) → word < words → get_or p word 0 ≡ get_or q word 0
  unfolding wrong_of wrong_at through
  none_agree zero e word k = absurd (not-suc-le-zero k)
  none_agree (suc words) e word k = go (eqb (get_or p (0 + words) 0) (get_or q (0 + words) 0)) (eqb-true (get_or p (0 + words) 0) (get_or q (0 + words) 0)) (none_agree words) e (eq-or-lt_of_le (le_of_suc-le-suc k))
    where
      go : (b : Bool) → (b ≡ true → get_or p (0 + words) 0 ≡ get_or q (0 + words) 0) → (wrong_of p q words ≡ 0 → (w : ℕ) → w < words → get_or p w 0 ≡ get_or q w 0) → cond b (wrong_of p q words) (wrong_of p q words + 1) ≡ 0 → (word ≡ words) ⊎ (word < words) → get_or p word 0 ≡ get_or q word 0
      go false t r z c = absurd (omega arith)
      go true t r z (inl here) = ap (λ (w : ℕ). get_or p w 0) (here ∙ sym (zero-add words)) ∙ t refl ∙ ap (λ (w : ℕ). get_or q w 0) (zero-add words ∙ sym here)
      go true t r z (inr before) = r z word before

-- ---- the ends of a visit
module _ (P : TrainingState → Type 0) where
  by_test : (b : Bool) (x y : TrainingState) → (b ≡ true → P x) → (b ≡ false → P y) → P (cond b x y)
  by_test true x y f g = f refl
  by_test false x y f g = g refl

module _ (rule : Rule) (m : Model) (d : Data) (i : ℕ) (s : TrainingState) where
  -- in how many words the predicted labels are wrong
  abbrev pub wrong_in : ℕ
  wrong_in = wrong_of (predicted_for m d i s) (reference_of d i) (words_of d i)

  -- what refused, unchanged and updated states have, each as far as a visit can end so, a visit has
  pub visit_cases : (P : TrainingState → Type 0) → ((number : ℕ) → P (refused_as number s)) → (wrong_in ≡ 0 → P (unchanged s)) → ((wrong_in ≡ 0 → ⊥) → (k : Mistake) → P (changed_to (updated_by rule m.features.count k s.learned) s)) → P (visited rule m d i s)
  unfolding predicted_for visited compared corrected held_to
  visit_cases P refused same changed =
      let w = s.learned.weights in
      let f = m.features.count in
      let states = states_of m w d.words (first_word d i) (words_of d i) in
      let truly = counts_of m d.words (first_word d i) (words_of d i) (reference_of d i) in
      let predicted = counts_of m d.words (first_word d i) (words_of d i) (predicted_for m d i s) in
      by_test P (all_finite_of states (words_of d i * m.labels) && all_finite_of (transitions_of m w) (m.labels * m.labels)) _ _
      (λ _.
      by_test P (eqb wrong_in 0) _ _ (λ e. same (eqb-true wrong_in 0 e)) (λ e.
      by_test P (all_finite_of truly f && all_finite_of predicted f) _ _ (λ _. held _ (changed (eqb-false wrong_in 0 e) _)) (λ _. refused 8)))
      (λ _. refused 8)
    where
      held : (after : TrainingState) → P after → P (held_to m.features.count s after)
      held after x = by_test P (finite_state m.features.count after) _ _ (λ _. x) (λ _. refused 9)

-- the counters rise by one at most
pub visit_rises : (rule : Rule) (m : Model) (d : Data) (i : ℕ) (s : TrainingState) → ((visited rule m d i s).progress.visits ≤ s.progress.visits + 1) × ((visited rule m d i s).progress.updates ≤ s.progress.updates + 1)
unfolding refused_as unchanged changed_to
visit_rises rule m d i s =
    visit_cases rule m d i s (λ t. (t.progress.visits ≤ s.progress.visits + 1) × (t.progress.updates ≤ s.progress.updates + 1)) (λ number. (omega arith, omega arith)) (λ z. (omega arith, omega arith)) (λ z k. (omega arith, omega arith))

-- ---- what is claimed
pub visits_end_by_labels : VisitsEndByLabels
unfolding refused_as unchanged changed_to
visits_end_by_labels rule m d i s = record {
  agree =
      visit_cases rule m d i s (λ t. t.progress.visit ≡ Unchanged → LabelsAgree m d i s)
      (λ number e. absurd (true≢false (ap is_refused e)))
      (λ z e. none_agree (predicted_for m d i s) (reference_of d i) (words_of d i) z)
      (λ z k e. absurd (true≢false (ap is_updated e)));
  differ =
      visit_cases rule m d i s (λ t. t.progress.visit ≡ Updated → LabelsAgree m d i s → ⊥)
      (λ number e h. true≢false (ap is_refused e))
      (λ z e h. true≢false (ap is_updated (sym e)))
      (λ z k e h. z (agree_none (predicted_for m d i s) (reference_of d i) (words_of d i) h));
}

pub agreeing_changes_nothing : AgreeingChangesNothing
unfolding refused_as unchanged
agreeing_changes_nothing rule m d i s h =
    visit_cases rule m d i s (NothingLearned s)
    (λ number. record { tables = refl; updates = refl; loss = refl })
    (λ z. record { tables = refl; updates = refl; loss = refl })
    (λ z k. absurd (z (agree_none (predicted_for m d i s) (reference_of d i) (words_of d i) h)))

pub refused_changes_nothing : RefusedChangesNothing
unfolding refused_as unchanged changed_to
refused_changes_nothing rule m d i s =
    visit_cases rule m d i s (λ t. is_refused t.progress.visit ≡ true → NothingLearned s t)
    (λ number r. record { tables = refl; updates = refl; loss = refl })
    (λ z r. absurd (true≢false (sym r)))
    (λ z k r. absurd (true≢false (sym r)))
