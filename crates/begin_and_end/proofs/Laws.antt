-- The end of a training: what a run comes to, by the tests that the code makes. Assumes nothing.
use Rattle.std.specs.Prelude.{Ok, Err}
use mathlib.Core.Path.{◌≡◌, refl, sym, ap, ◌∙◌}
use mathlib.Core.Bool.{Bool, true, false, true≢false}
use mathlib.Core.List.{List, [], ◌∷◌}
use Prim.Native.Nat.{ℕ, ◌+◌}
use denote.Enum.Declared.{tag_of}
use types.Run.{OneOf, miss}
use lib.ListN.{replicate}
use lib.Ieee.{Float}
use Rattle.binary64.specs.Numbers.{nought, whole}
use Rattle.lines.specs.Tables.{Model}
use Rattle.refusals.specs.declared.Refusal.{Refusal}
use Rattle.refusals.specs.Refusals.{numbered}
use Rattle.training.specs.declared.Progress.{Progress}
use Rattle.training.specs.declared.Visit.{Visit}
use Rattle.training.specs.declared.Visit.TheVariants.{Unchanged, Updated, Refused}
use Rattle.training.specs.contracts.Visit.{the_type}
use Rattle.lines.specs.Data.{Data}
use Rattle.fronts.specs.Finite.{all_finite_of}
use Rattle.training.specs.Rules.{Rule, averaged_by}
use Rattle.training.specs.Epochs.{Settings, Run, TrainingResult, is_refused, refused_with, averaged, finished}
use Rattle.begin_and_end.specs.declared.Ran.{Ran}
use Rattle.begin_and_end.specs.Ending.{Finished, AveragedAs}

-- ---- the end
-- a visit that is one of the two other variants was not refused
pub not_refused : (v : Visit) → ((why : Refusal) → v ≡ Refused why → ⊥) → is_refused v ≡ false
not_refused Unchanged k = refl
not_refused Updated k = refl
not_refused (Refused why) k = absurd (k why refl)

module _ (rule : Rule) (set : Settings) (m : Model) (d : Data) where
  averaged_end : (v : Visit) (r : Run) → is_refused v ≡ false → finished rule set m d v r ≡ averaged rule set m d r
  unfolding finished
  averaged_end Unchanged r e = refl
  averaged_end Updated r e = refl
  averaged_end (Refused why) r e = absurd (true≢false e)

  module _ {features : ℕ} (e : m.features.count ≡ features) {ran : Ran} {weights beside : List Float} {r : Run} (f : Finished ran weights beside r) where
    same_end : {b : Bool} → is_refused ran.progress.visit ≡ b → is_refused r.state.progress.visit ≡ b
    same_end h = ap (λ (s : Progress). is_refused s.visit) (sym f.progress) ∙ h

    -- a visit was refused
    pub visit_refused : {why : Refusal} {z : List Float} → ran.progress.visit ≡ Refused why → z ≡ replicate features nought → ◌≡◌ {A = TrainingResult} (record { answer = Err why; weights = z }) (finished rule set m d r.state.progress.visit r)
    unfolding finished refused_with
    visit_refused {why} h q =
        let v : r.state.progress.visit ≡ Refused why = ap (λ (s : Progress). s.visit) (sym f.progress) ∙ h in
        rw (v, q, e)

    module _ (h : is_refused ran.progress.visit ≡ false) {w : List Float} {all : Bool} (a : AveragedAs rule features (whole (ran.progress.visits + 1)) (record { weights = weights; beside = beside }) w all) where
      averaged_are : averaged_by rule m.features.count (whole (r.state.progress.visits + 1)) r.state.learned ≡ w
      averaged_are = rw (e, ← f.progress, ← f.learned (same_end h)) (sym a.weights)

      finite_are : {b : Bool} → all ≡ b → all_finite_of (averaged_by rule m.features.count (whole (r.state.progress.visits + 1)) r.state.learned) m.features.count ≡ b
      finite_are t = rw (averaged_are, e) (sym a.finite ∙ t)

      pub accepted : all ≡ true → ◌≡◌ {A = TrainingResult} (record { answer = Ok (record { epochs = ran.epochs; visits = ran.progress.visits; updates = ran.progress.updates }); weights = w }) (finished rule set m d r.state.progress.visit r)
      unfolding averaged
      accepted t = rw (averaged_end r.state.progress.visit r (same_end h), finite_are t, averaged_are, f.epochs (same_end h), f.progress)

      -- 9 for the averaging
      pub averaging_refused : all ≡ false → {why : Refusal} {z : List Float} → why ≡ numbered 9 ran.progress.visits → z ≡ replicate features nought → ◌≡◌ {A = TrainingResult} (record { answer = Err why; weights = z }) (finished rule set m d r.state.progress.visit r)
      unfolding averaged refused_with
      averaging_refused t p q = rw (p, averaged_end r.state.progress.visit r (same_end h), finite_are t, q, f.progress, e)
