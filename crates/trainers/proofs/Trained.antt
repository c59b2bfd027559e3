-- What a training gives, whatever it answers: as many weights as there are features, and no number but 8 and 9. Assumes nothing.
use Rattle.std.specs.Prelude.{Ok, Err, Result}
use mathlib.Core.Path.{◌≡◌, refl, ap}
use mathlib.Core.Bool.{Bool, true, false, cond, ◌&&◌, true≢false}
use mathlib.Core.List.{List, [], ◌∷◌}
use mathlib.Core.Logic.{inl, inr}
use Prim.Native.Nat.{ℕ, ◌+◌, ◌*◌}
use lib.Dec.{eqb}
use lib.ListN.{length, get_or, replicate, length-replicate}
use lib.Ieee.{Float}
use Rattle.refusals.specs.declared.Refusal.{Refusal}
use Rattle.refusal_rows.specs.Given.{OneOf}
use Rattle.shuffle.specs.Shuffle.{shuffled}
use Rattle.lines.specs.Passes.{through}
use Rattle.binary64.specs.Numbers.{nought, whole}
use Rattle.lines.specs.Tables.{Model}
use Rattle.lines.specs.Scored.{states_of, transitions_of}
use Rattle.lines.specs.Counted.{counts_of}
use Rattle.training.specs.declared.Visit.{Visit}
use Rattle.training.specs.declared.Visit.TheVariants.{Unchanged, Updated, Refused}
use Rattle.training.specs.declared.Trained.{Trained}
use Rattle.lines.specs.Data.{Data, first_word, words_of, reference_of}
use Rattle.fronts.specs.Finite.{all_finite_of}
use Rattle.training.specs.Rules.{Rule, Update, stops, averaged_by}
use Rattle.training.specs.Visits.{TrainingState, refused_as, unchanged, changed_to, finite_state, held_to, corrected, compared, visited}
use Rattle.training.specs.Epochs.{Settings, Run, TrainingResult, is_refused, opened, visited_at, epoch_over, epoch, epoch_unless_over, begun, ran, refused_with, averaged, finished, trained}
use Rattle.training.specs.OneVisit.{predicted_for}
use Rattle.training.proofs.OneVisit.{wrong_in}
use Rattle.training.proofs.Weights.{Long, through_keeps, average_long, visit_long, run_long}

by_test : {A : Type 0} (P : A → Type 0) (b : Bool) (x y : A) → P x → P y → P (cond b x y)
by_test P true x y p q = p
by_test P false x y p q = q

-- a visit that is refused is refused by 8 or 9
abbrev Late : Visit → Type 0
Late Unchanged = Unit
Late Updated = Unit
Late (Refused why) = OneOf (8 ∷ 9 ∷ []) why.number

abbrev LateIn : TrainingState → Type 0
LateIn s = Late s.progress.visit

-- what its four ends have, a visit has
visit_by : (P : TrainingState → Type 0) (rule : Rule) (m : Model) (d : Data) (i : ℕ) (s : TrainingState) → P (refused_as 8 s) → P (refused_as 9 s) → P (unchanged s) → ((u : Update) → P (changed_to u s)) → P (visited rule m d i s)
unfolding predicted_for visited compared corrected held_to
visit_by P rule m d i s eight nine same changed =
    let w = s.learned.weights in
    let f = m.features.count in
    let states = states_of m w d.words (first_word d i) (words_of d i) in
    let truly = counts_of m d.words (first_word d i) (words_of d i) (reference_of d i) in
    let predicted = counts_of m d.words (first_word d i) (words_of d i) (predicted_for m d i s) in
    by_test P (all_finite_of states (words_of d i * m.labels) && all_finite_of (transitions_of m w) (m.labels * m.labels)) _ _
    (by_test P (eqb (wrong_in rule m d i s) 0) _ _ same (by_test P (all_finite_of truly f && all_finite_of predicted f) _ _ (held _ (changed _)) eight))
    eight
  where
    held : (after : TrainingState) → P after → P (held_to m.features.count s after)
    held after x = by_test P (finite_state m.features.count after) _ _ x nine

visit_late : (rule : Rule) (m : Model) (d : Data) (i : ℕ) (s : TrainingState) → LateIn (visited rule m d i s)
unfolding refused_as unchanged changed_to
visit_late rule m d i s = visit_by LateIn rule m d i s (inl refl) (inr (inl refl)) tt (λ u. tt)

module _ (visit : ℕ → TrainingState → TrainingState) (late : (i : ℕ) (s : TrainingState) → LateIn (visit i s)) where
  at_late : (order : List ℕ) (j : ℕ) (s : TrainingState) → LateIn s → LateIn (visited_at visit order j s)
  unfolding visited_at
  at_late order j s h = by_test LateIn (is_refused s.progress.visit) s (visit (get_or order j 0) s) h (late (get_or order j 0) s)

  unless_late : (stop : Float → Bool) (instances e : ℕ) (r : Run) → LateIn r.state → LateIn (epoch_unless_over visit stop instances e r).state
  unfolding epoch_unless_over epoch epoch_over opened
  unless_late stop instances e r h =
      by_test (λ (x : Run). LateIn x.state) r.over r (epoch visit stop instances r) h
      (through_keeps LateIn _ (at_late (shuffled instances r.deal).order) 0 instances (opened r.state) tt)

  run_late : (stop : Float → Bool) (instances e : ℕ) (r : Run) → LateIn r.state → LateIn (through (epoch_unless_over visit stop instances) 0 e r).state
  run_late stop instances e r h = through_keeps (λ (x : Run). LateIn x.state) (epoch_unless_over visit stop instances) (unless_late stop instances) 0 e r h

module _ (rule : Rule) (set : Settings) (m : Model) (d : Data) where
  -- no number but 8 and 9, and as many weights as there are features, which are zero after them
  record Told (r : TrainingResult) : Type 0 where
    long : length r.weights ≡ m.features.count
    late : (why : Refusal) → r.answer ≡ Err why → OneOf (8 ∷ 9 ∷ []) why.number
    zero : (why : Refusal) → r.answer ≡ Err why → r.weights ≡ replicate m.features.count nought

  refused_told : (w : Refusal) → OneOf (8 ∷ 9 ∷ []) w.number → Told (refused_with rule set m d w)
  unfolding refused_with
  refused_told w h = record {
    long = length-replicate m.features.count nought;
    late = λ why e. let n : w.number ≡ why.number = cc in rw (← n) h;
    zero = λ why e. refl;
  }

  abbrev is_accepted : Result Trained Refusal → Bool
  is_accepted (Ok t) = true
  is_accepted (Err why) = false

  accepted_told : (t : Trained) (w : List Float) → length w ≡ m.features.count → Told (record { answer = Ok t; weights = w })
  accepted_told t w l = record {
    long = l;
    late = λ why e. absurd (true≢false (ap is_accepted e));
    zero = λ why e. absurd (true≢false (ap is_accepted e));
  }

  averaged_told : (r : Run) → Long m.features.count r.state.learned → Told (averaged rule set m d r)
  unfolding averaged
  averaged_told r h =
      let n = m.features.count in
      let w = averaged_by rule n (whole (r.state.progress.visits + 1)) r.state.learned in
      by_test Told (all_finite_of w n) _ _ (accepted_told _ w (average_long n rule n _ r.state.learned h)) (refused_told (record { number = 9; place = r.state.progress.visits }) (inr (inl refl)))

  finished_told : (v : Visit) (r : Run) → Late v → Long m.features.count r.state.learned → Told (finished rule set m d v r)
  unfolding finished
  finished_told Unchanged r l h = averaged_told r h
  finished_told Updated r l h = averaged_told r h
  finished_told (Refused why) r l h = refused_told why l

  trained_told : Told (trained rule set m d)
  unfolding trained ran begun
  trained_told =
      let n = m.features.count in
      let stop = stops rule set.epsilon in
      let first = begun rule set m d in
      finished_told (ran rule set m d).state.progress.visit (ran rule set m d)
      (run_late (visited rule m d) (visit_late rule m d) stop d.instances set.epochs first tt)
      (run_long (visited rule m d) n (visit_long rule m d n) stop d.instances set.epochs first (length-replicate n nought))

  pub trained_long : length (trained rule set m d).weights ≡ m.features.count
  trained_long = trained_told.long

  pub trained_late : (why : Refusal) → (trained rule set m d).answer ≡ Err why → OneOf (8 ∷ 9 ∷ []) why.number
  trained_late = trained_told.late

  pub trained_zero : (why : Refusal) → (trained rule set m d).answer ≡ Err why → (trained rule set m d).weights ≡ replicate m.features.count nought
  trained_zero = trained_told.zero
