-- 8 and 9 are given exactly when `Reached` says. Assumes nothing.
use Rattle.std.specs.Prelude.{Ok, Err}
use mathlib.Core.Path.{◌≡◌, refl, sym, ap, ◌∙◌}
use mathlib.Core.Bool.{true, false, true≢false}
use mathlib.Core.Logic.{◌⊎◌, inl, inr}
use Prim.Native.Nat.{ℕ, ◌*◌}
use native.Mathlib.Omega.{arith}
use lib.Dec.{T}
use lib.Ieee.{Float}
use lib.Ieee.Scale.{finite}
use Rattle.refusals.specs.declared.Refusal.{Refusal}
use Rattle.training.specs.declared.Visit.{Visit}
use Rattle.training.specs.declared.Visit.TheVariants.{Unchanged, Updated, Refused}
use Rattle.training.specs.declared.Trained.{Trained}
use Rattle.lines.specs.Tables.{Model}
use Rattle.lines.specs.Data.{Data}
use Rattle.fronts.specs.Finite.{all_finite_of}
use Rattle.fronts.proofs.Finite.{all_finite_if}
use Rattle.training.specs.Rules.{Rule, perceptron, passive, arow, beside_at_first, averaged_by}
use Rattle.training.specs.Visits.{TrainingState, refused_as, visited}
use Rattle.training.specs.Epochs.{Settings, Run, is_refused, ran, refused_with, averaged, finished, trained}
use Rattle.training.specs.Reasons.{SomeNotFinite, KeepsSums, TablesFinite, VisitMeans}
use Rattle.training.specs.Reached.{instance_at, state_before, end_at, Reached, EightAtVisit, averaged_weights, NineAt, in_visit, in_averaging, RefusedExactly}
use Rattle.training.proofs.Reasons.{by_test, none_of, some_of, eight_so, nine_so, visits_mean}
use Rattle.training.proofs.AlwaysFinite.{ran_finite, before_finite}
use Rattle.training.proofs.Reached.{visits_before, ran_refused, ran_found, none_refused_so, so_none_refused, all_visits}

module _ (rule : Rule) (set : Settings) (m : Model) (d : Data) where
  -- ---- the answer: from a refused visit, from the averaging, or accepted
  data Answered : Type 0 where
    by_visit : (why : Refusal) → (ran rule set m d).state.progress.visit ≡ Refused why → (trained rule set m d).answer ≡ Err why → Answered
    by_averaging : is_refused (ran rule set m d).state.progress.visit ≡ false → all_finite_of (averaged_weights rule set m d) m.features.count ≡ false → (trained rule set m d).answer ≡ Err (record { number = 9; place = (ran rule set m d).epochs * d.instances }) → Answered
    by_success : (t : Trained) → (trained rule set m d).answer ≡ Ok t → Answered

  refused_so : (why : Refusal) → (ran rule set m d).state.progress.visit ≡ Refused why → (trained rule set m d).answer ≡ Err why
  unfolding trained finished refused_with
  refused_so why e = rw e

  averages : (v : Visit) (r : Run) → is_refused v ≡ false → finished rule set m d v r ≡ averaged rule set m d r
  unfolding finished
  averages Unchanged r e = refl
  averages Updated r e = refl
  averages (Refused why) r e = absurd (true≢false e)

  averaging_refused : is_refused (ran rule set m d).state.progress.visit ≡ false → all_finite_of (averaged_weights rule set m d) m.features.count ≡ false → (trained rule set m d).answer ≡ Err (record { number = 9; place = (ran rule set m d).epochs * d.instances })
  unfolding trained averaged refused_with
  averaging_refused h e = rw (averages (ran rule set m d).state.progress.visit (ran rule set m d) h, e, all_visits rule set m d h)

  averaging_accepted : is_refused (ran rule set m d).state.progress.visit ≡ false → all_finite_of (averaged_weights rule set m d) m.features.count ≡ true →
      (trained rule set m d).answer ≡ Ok (record { epochs = (ran rule set m d).epochs; visits = (ran rule set m d).state.progress.visits; updates = (ran rule set m d).state.progress.updates })
  unfolding trained averaged
  averaging_accepted h e = rw (averages (ran rule set m d).state.progress.visit (ran rule set m d) h, e)

  answered : Answered
  answered = go (ran rule set m d).state.progress.visit refl
    where
      averaging : is_refused (ran rule set m d).state.progress.visit ≡ false → Answered
      averaging h =
          by_test (all_finite_of (averaged_weights rule set m d) m.features.count)
          (λ e. by_success _ (averaging_accepted h e))
          (λ e. by_averaging h e (averaging_refused h e))

      go : (v : Visit) → (ran rule set m d).state.progress.visit ≡ v → Answered
      go Unchanged e = averaging (ap is_refused e)
      go Updated e = averaging (ap is_refused e)
      go (Refused why) e = by_visit why e (refused_so why e)

-- only an averaging that takes running sums can lose what was finite
averaging_lost : (rule : Rule) (features : ℕ) (counter : Float) (s : TrainingState) → TablesFinite features s → SomeNotFinite (averaged_by rule features counter s.learned) features → KeepsSums rule
unfolding averaged_by
averaging_lost perceptron features counter s f h = tt
averaging_lost (passive variant c sensitive true) features counter s f h = refl
averaging_lost (passive variant c sensitive false) features counter s f h = absurd (true≢false (sym (all_finite_if s.learned.weights features f.weights) ∙ none_of s.learned.weights features h))
averaging_lost (arow variance gamma) features counter s f h = absurd (true≢false (sym (all_finite_if s.learned.weights features f.weights) ∙ none_of s.learned.weights features h))

-- ---- what is claimed
module _ (rule : Rule) (set : Settings) (m : Model) (d : Data) (start : T (finite (beside_at_first rule))) where
  -- a visit that is reached answers for the training where it is refused so
  visit_answers : (e j n number : ℕ) → Reached rule set m d e j n → visited rule m d (instance_at rule set m d e j) (state_before rule set m d e j) ≡ refused_as number (state_before rule set m d e j) → (trained rule set m d).answer ≡ Err (record { number = number; place = n })
  unfolding refused_as
  visit_answers e j n number r q =
      let t : is_refused (end_at rule set m d e j) ≡ true = ap (λ (s : TrainingState). is_refused s.progress.visit) q in
      let l = ran_refused rule set m d e j n r t ∙ q in
      refused_so rule set m d _ (ap (λ (s : TrainingState). s.progress.visit) l)
      ∙ ap (λ (p : ℕ). Err (record { number = number; place = p })) (visits_before rule set m d e j n r)

  eight_answers : (place : ℕ) → EightAtVisit rule set m d place → (trained rule set m d).answer ≡ Err (record { number = 8; place = place })
  eight_answers place h =
      visit_answers h.epoch h.turn place 8 h.reached (eight_so rule m d (instance_at rule set m d h.epoch h.turn) (state_before rule set m d h.epoch h.turn) h.found)

  nine_answers : (place : ℕ) → NineAt rule set m d place → (trained rule set m d).answer ≡ Err (record { number = 9; place = place })
  nine_answers place (in_visit e j r c h) = visit_answers e j place 9 r (nine_so rule m d (instance_at rule set m d e j) (state_before rule set m d e j) c h)
  nine_answers place (in_averaging n p k h) = rw p (averaging_refused rule set m d (none_refused_so rule set m d n) (none_of (averaged_weights rule set m d) m.features.count h))

  -- the visit that a training was refused at
  record RefusedFor (why : Refusal) : Type 0 where
    epoch_at : ℕ
    turn : ℕ
    reached : Reached rule set m d epoch_at turn why.place
    ended : end_at rule set m d epoch_at turn ≡ Refused (record { number = why.number; place = (state_before rule set m d epoch_at turn).progress.visits })
    means : VisitMeans rule m d (instance_at rule set m d epoch_at turn) (state_before rule set m d epoch_at turn)

  refused_for : (why : Refusal) → (ran rule set m d).state.progress.visit ≡ Refused why → RefusedFor why
  refused_for why e =
      let f = ran_found rule set m d (ap is_refused e) in
      let s = state_before rule set m d f.epoch_at f.turn in
      let v = visits_mean rule m d (instance_at rule set m d f.epoch_at f.turn) s (before_finite rule set m d start f.epoch_at f.turn) in
      let q : end_at rule set m d f.epoch_at f.turn ≡ Refused why = ap (λ (t : TrainingState). t.progress.visit) (sym f.last) ∙ e in
      let p : why.place ≡ s.progress.visits = (v.only why q).1 in
      let b : f.before ≡ why.place = sym (visits_before rule set m d f.epoch_at f.turn f.before f.reached) ∙ sym p in
      record {
        epoch_at = f.epoch_at;
        turn = f.turn;
        reached = rw b at f.reached;
        ended = q ∙ ap (λ (z : ℕ). Refused (record { number = why.number; place = z })) p;
        means = v;
      }

  visit_eight : (place : ℕ) → (ran rule set m d).state.progress.visit ≡ Refused (record { number = 8; place = place }) → EightAtVisit rule set m d place
  visit_eight place e =
      let f = refused_for _ e in
      record { epoch = f.epoch_at; turn = f.turn; reached = f.reached; found = f.means.eight.0 f.ended }

  visit_nine : (place : ℕ) → (ran rule set m d).state.progress.visit ≡ Refused (record { number = 9; place = place }) → NineAt rule set m d place
  visit_nine place e =
      let f = refused_for _ e in
      let h = f.means.nine.0 f.ended in
      in_visit f.epoch_at f.turn f.reached h.0 h.1

  averaging_nine : is_refused (ran rule set m d).state.progress.visit ≡ false → all_finite_of (averaged_weights rule set m d) m.features.count ≡ false → NineAt rule set m d ((ran rule set m d).epochs * d.instances)
  unfolding ran
  averaging_nine h e =
      let lost = some_of (averaged_weights rule set m d) m.features.count e in
      in_averaging (so_none_refused rule set m d h) refl (averaging_lost rule m.features.count _ (ran rule set m d).state (ran_finite rule set m d start set.epochs) lost) lost

  same_refusal : {why : Refusal} {n p : ℕ} → (trained rule set m d).answer ≡ Err why → (trained rule set m d).answer ≡ Err (record { number = n; place = p }) → why ≡ record { number = n; place = p }
  same_refusal a b = cc

  eight_told : (place : ℕ) → Answered rule set m d → (trained rule set m d).answer ≡ Err (record { number = 8; place = place }) → EightAtVisit rule set m d place
  eight_told place (by_visit why e a) b = visit_eight place (e ∙ ap Refused (same_refusal a b))
  eight_told place (by_averaging h f a) b = absurd (omega (arith, ap (λ (w : Refusal). w.number) (same_refusal a b)))
  eight_told place (by_success t a) b = let z : ◌≡◌ {A = ℕ} 0 1 = cc in absurd (omega arith)

  nine_told : (place : ℕ) → Answered rule set m d → (trained rule set m d).answer ≡ Err (record { number = 9; place = place }) → NineAt rule set m d place
  nine_told place (by_visit why e a) b = visit_nine place (e ∙ ap Refused (same_refusal a b))
  nine_told place (by_averaging h f a) b =
      let p : (ran rule set m d).epochs * d.instances ≡ place = ap (λ (w : Refusal). w.place) (same_refusal a b) in
      rw p at (averaging_nine h f)
  nine_told place (by_success t a) b = let z : ◌≡◌ {A = ℕ} 0 1 = cc in absurd (omega arith)

  -- a training for which neither 8 nor 9 is there is accepted
  accepted_so : Answered rule set m d → ((place : ℕ) → EightAtVisit rule set m d place → ⊥) → ((place : ℕ) → NineAt rule set m d place → ⊥) → (t : Trained) × ((trained rule set m d).answer ≡ Ok t)
  accepted_so (by_success t a) no_eight no_nine = (t, a)
  accepted_so (by_averaging h f a) no_eight no_nine = absurd (no_nine _ (averaging_nine h f))
  accepted_so (by_visit why e a) no_eight no_nine = absurd (go ((refused_for why e).means.only _ (refused_for why e).ended).0)
    where
      go : (why.number ≡ 8) ⊎ (why.number ≡ 9) → ⊥
      go (inl n) = no_eight why.place (visit_eight why.place (e ∙ ap (λ (z : ℕ). Refused (record { number = z; place = why.place })) n))
      go (inr n) = no_nine why.place (visit_nine why.place (e ∙ ap (λ (z : ℕ). Refused (record { number = z; place = why.place })) n))

  not_both : {why : Refusal} {t : Trained} → (trained rule set m d).answer ≡ Ok t → (trained rule set m d).answer ≡ Err why → ⊥
  not_both a b = let z : ◌≡◌ {A = ℕ} 0 1 = cc in omega arith

pub refused_exactly : RefusedExactly
refused_exactly rule set m d start =
    let a = answered rule set m d in
    record {
      eight = λ place. (eight_told rule set m d start place a, eight_answers rule set m d start place);
      nine = λ place. (nine_told rule set m d start place a, nine_answers rule set m d start place);
      accepted = (
        λ t. (λ place h. not_both rule set m d start t.1 (eight_answers rule set m d start place h), λ place h. not_both rule set m d start t.1 (nine_answers rule set m d start place h)),
        λ none. accepted_so rule set m d start a none.0 none.1,
      );
    }
