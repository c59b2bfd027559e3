-- The ways through an update: how the code's tests pick a case of the definition. Assumes nothing.
use mathlib.Core.Path.{◌≡◌, sym, ap, ◌∙◌}
use mathlib.Core.Bool.{true, false, ◌&&◌, and_assoc, true≢false}
use mathlib.Core.List.{[]}
use Prim.Native.Nat.{ℕ, ◌+◌, ◌≤◌}
use native.Mathlib.Omega.{arith}
use lib.Ieee.Scale.{finite}
use Rattle.training.specs.declared.Progress.{Progress}
use Rattle.training.specs.declared.Visit.TheVariants.{Updated as Changed}
use Rattle.binary64.specs.Numbers.{whole}
use Rattle.fronts.specs.Finite.{all_finite_of}
use Rattle.training.specs.Rules.{Rule, Learned, Mistake, updated_by, ◌⊕◌}
use Rattle.training.specs.Visits.{TrainingState, refused_as, unchanged, changed_to, finite_state, held_to}
use Rattle.training.specs.Epochs.{is_refused}
use Rattle.training.proofs.FiniteCounts.{weights_tell_counts}
use Rattle.training_tables.specs.declared.Outcome.{Outcome}
use Rattle.training_tables.specs.Tables.{Updated}
use Rattle.judging.proofs.Laws.{both}
use Rattle.updates.specs.Updating.{Agreed, VisitCounted, settled}

pub exactly : {made meant : TrainingState} → made ≡ meant → Agreed made meant
exactly e = record { progress = ap (λ (s : TrainingState). s.progress) e; whole = λ _. e }

-- of a refused visit the progress is all there is
pub refused : (number : ℕ) (s : TrainingState) {meant : TrainingState} {r : Progress} {l : Learned} → meant ≡ refused_as number s → r ≡ (refused_as number s).progress → Agreed (record { progress = r; learned = l }) meant
unfolding refused_as
refused number s {meant} e p = record {
  progress = p ∙ ap (λ (t : TrainingState). t.progress) (sym e);
  whole = λ h. absurd (true≢false (ap (λ (t : TrainingState). is_refused t.progress.visit) (sym e) ∙ h));
}

pub refused_counted : (number : ℕ) (s r : Progress) → ((l : Learned) → r ≡ (refused_as number (record { progress = s; learned = l })).progress) → s.updates ≤ s.visits → VisitCounted s r
unfolding refused_as
refused_counted number s r e h =
    let none : Learned = record { weights = []; beside = [] } in
    let v : r.visits ≡ s.visits = ap (λ (t : Progress). t.visits) (e none) in
    let u : r.updates ≡ s.updates = ap (λ (t : Progress). t.updates) (e none) in
    record { visits = omega arith; updates = omega arith }

pub unchanged_counted : (s r : Progress) → ((l : Learned) → r ≡ (unchanged (record { progress = s; learned = l })).progress) → s.updates ≤ s.visits → VisitCounted s r
unfolding unchanged
unchanged_counted s r e h =
    let none : Learned = record { weights = []; beside = [] } in
    let v : r.visits ≡ s.visits + 1 = ap (λ (t : Progress). t.visits) (e none) in
    let u : r.updates ≡ s.updates = ap (λ (t : Progress). t.updates) (e none) in
    record { visits = omega arith; updates = omega arith }

-- ---- an update
module _ (rule : Rule) (features : ℕ) (k : Mistake) (s : TrainingState) {after : Learned} {o : Outcome} (u : Updated rule features k s.learned after o) where
  made : changed_to (updated_by rule features k s.learned) s ≡ record { progress = record { visit = Changed; visits = s.progress.visits + 1; updates = s.progress.updates + 1; loss = s.progress.loss ⊕ o.loss }; learned = after }
  unfolding changed_to
  made = rw (← u.update)

  told : finite_state features (changed_to (updated_by rule features k s.learned) s) ≡ o.finite && finite (s.progress.loss ⊕ o.loss)
  unfolding finite_state
  told = rw (made, u.finite, and_assoc)

  counts_finite : o.finite ≡ true → all_finite_of k.truly features && all_finite_of k.predicted features ≡ true
  counts_finite t =
      weights_tell_counts rule features k s.learned
      (rw (← u.update) (both (all_finite_of after.weights features) (all_finite_of after.beside features) (sym u.finite ∙ t)).0)

  -- it is held: nobody has to look at the counts
  pub held : o.finite && finite (s.progress.loss ⊕ o.loss) ≡ true →
      Agreed (record { progress = record { visit = Changed; visits = s.progress.visits + 1; updates = s.progress.updates + 1; loss = s.progress.loss ⊕ o.loss }; learned = after }) (settled rule features k s)
  unfolding settled held_to
  held t = exactly (rw (counts_finite (both o.finite (finite (s.progress.loss ⊕ o.loss)) t).0, told, t, made))

  -- 9
  pub not_held : o.finite && finite (s.progress.loss ⊕ o.loss) ≡ false → all_finite_of k.truly features && all_finite_of k.predicted features ≡ true →
      {r : Progress} {l : Learned} → r ≡ (refused_as 9 s).progress → Agreed (record { progress = r; learned = l }) (settled rule features k s)
  unfolding settled held_to
  not_held t c p = refused 9 s (rw (c, told, t)) p

-- 8 for the counts
pub not_counted : (rule : Rule) (features : ℕ) (k : Mistake) (s : TrainingState) → all_finite_of k.truly features && all_finite_of k.predicted features ≡ false → {r : Progress} {l : Learned} → r ≡ (refused_as 8 s).progress → Agreed (record { progress = r; learned = l }) (settled rule features k s)
unfolding settled
not_counted rule features k s t p = refused 8 s (rw t) p
