-- There are as many weights as features, from the first visit to the last and after the averaging. Assumes nothing.
use mathlib.Core.Path.{◌≡◌, ◌∙◌}
use mathlib.Core.Bool.{Bool, true, false, cond}
use mathlib.Core.List.{List}
use Prim.Native.Nat.{ℕ, zero, suc, ◌+◌}
use lib.ListN.{length, get_or, length-set}
use lib.Ieee.{Float}
use Rattle.shuffle.specs.Shuffle.{shuffled}
use Rattle.lines.specs.Passes.{through, raised}
use Rattle.lines.specs.Tables.{Model}
use Rattle.lines.specs.Data.{Data}
use Rattle.training.specs.Rules.{Rule, perceptron, passive, arow, Learned, Mistake, pushed, pulled, narrowed, by_perceptron, by_passive, by_arow, updated_by, averaged_at, averaged_by}
use Rattle.training.specs.Visits.{TrainingState, refused_as, unchanged, changed_to, visited}
use Rattle.training.specs.Epochs.{Run, is_refused, opened, visited_at, epoch_over, epoch, epoch_unless_over}
use Rattle.training.proofs.OneVisit.{visit_cases}

-- ---- what holds before a pass and is kept by each step holds after it
module _ {S : Type 0} (P : S → Type 0) (step : ℕ → S → S) (keeps : (j : ℕ) (s : S) → P s → P (step j s)) where
  pub through_keeps : (first n : ℕ) (s : S) → P s → P (through step first n s)
  unfolding through
  through_keeps first zero s h = h
  through_keeps first (suc n) s h = keeps (first + n) (through step first n s) (through_keeps first n s h)

-- ---- n weights
abbrev pub Long : ℕ → Learned → Type 0
Long n s = length s.weights ≡ n

raised_long : (n : ℕ) (w : List Float) (i : ℕ) (v : Float) → length w ≡ n → length (raised w i v) ≡ n
unfolding raised
raised_long n w i v h = length-set w i _ ∙ h

pub update_long : (n features : ℕ) (rule : Rule) (k : Mistake) (s : Learned) → Long n s → Long n (updated_by rule features k s).learned
unfolding updated_by by_perceptron by_passive by_arow pushed pulled narrowed
update_long n features perceptron k s h = through_keeps (Long n) _ (λ j s p. raised_long n s.weights j _ p) 0 features s h
update_long n features (passive variant c sensitive averaging) k s h = through_keeps (Long n) _ (λ j s p. raised_long n s.weights j _ p) 0 features s h
update_long n features (arow variance gamma) k s h = through_keeps (Long n) _ (λ j s p. raised_long n s.weights j _ p) 0 features s h

pass_long : (n features : ℕ) (counter : Float) (sums w : List Float) → length w ≡ n → length (through (averaged_at counter sums) 0 features w) ≡ n
unfolding averaged_at
pass_long n features counter sums w h = through_keeps (λ (v : List Float). length v ≡ n) (averaged_at counter sums) (λ j v p. length-set v j _ ∙ p) 0 features w h

pub average_long : (n : ℕ) (rule : Rule) (features : ℕ) (counter : Float) (s : Learned) → Long n s → length (averaged_by rule features counter s) ≡ n
unfolding averaged_by
average_long n perceptron features counter s h = pass_long n features counter s.beside s.weights h
average_long n (passive variant c sensitive true) features counter s h = pass_long n features counter s.beside s.weights h
average_long n (passive variant c sensitive false) features counter s h = h
average_long n (arow variance gamma) features counter s h = h

-- ---- a visit
pub visit_long : (rule : Rule) (m : Model) (d : Data) (n i : ℕ) (s : TrainingState) → Long n s.learned → Long n (visited rule m d i s).learned
unfolding refused_as unchanged changed_to
visit_long rule m d n i s h =
    visit_cases rule m d i s (λ t. Long n t.learned) (λ number. h) (λ z. h) (λ z k. update_long n m.features.count rule k s.learned h)

-- ---- a run
module _ (visit : ℕ → TrainingState → TrainingState) (n : ℕ) (keeps : (i : ℕ) (s : TrainingState) → Long n s.learned → Long n (visit i s).learned) where
  at_long : (order : List ℕ) (j : ℕ) (s : TrainingState) → Long n s.learned → Long n (visited_at visit order j s).learned
  unfolding visited_at
  at_long order j s h = go (is_refused s.progress.visit)
    where
      go : (b : Bool) → Long n (cond b s (visit (get_or order j 0) s)).learned
      go true = h
      go false = keeps (get_or order j 0) s h

  unless_long : (stop : Float → Bool) (instances e : ℕ) (r : Run) → Long n r.state.learned → Long n (epoch_unless_over visit stop instances e r).state.learned
  unfolding epoch_unless_over epoch epoch_over opened
  unless_long stop instances e r h = go r.over
    where
      go : (b : Bool) → Long n (cond b r (epoch visit stop instances r)).state.learned
      go true = h
      go false = through_keeps (λ (s : TrainingState). Long n s.learned) _ (at_long (shuffled instances r.deal).order) 0 instances (opened r.state) h

  pub run_long : (stop : Float → Bool) (instances e : ℕ) (r : Run) → Long n r.state.learned → Long n (through (epoch_unless_over visit stop instances) 0 e r).state.learned
  run_long stop instances e r h = through_keeps (λ (x : Run). Long n x.state.learned) (epoch_unless_over visit stop instances) (unless_long stop instances) 0 e r h
