-- The visits of a training: which are reached, what is counted before them, and that a refused one is the last. Assumes nothing.
use mathlib.Core.Path.{◌≡◌, refl, sym, ap, ◌∙◌}
use mathlib.Core.Bool.{Bool, true, false, cond, true≢false}
use mathlib.Core.Logic.{◌⊎◌, inl, inr}
use Prim.Native.Nat.{ℕ, zero, suc, ◌+◌, ◌*◌, ◌≤◌, ◌<◌}
use native.Mathlib.Nat.{zero-add, not-suc-le-zero, eq-or-lt_of_le, le_of_suc-le-suc}
use native.Mathlib.Omega.{arith}
use lib.Ieee.{Float}
use Rattle.lines.specs.Passes.{through}
use Rattle.lines.specs.Tables.{Model}
use Rattle.lines.specs.Data.{Data}
use Rattle.training.specs.Rules.{Rule, stops}
use Rattle.training.specs.Visits.{TrainingState, visited}
use Rattle.training.specs.Epochs.{Settings, Run, is_refused, opened, epoch_over, epoch, epoch_unless_over, begun, ran}
use Rattle.training.specs.Accepted.{ends_within}
use Rattle.training.specs.Orders.{ran_for}
use Rattle.training.specs.Reached.{order_in, instance_at, state_before, end_at, GoesOn, Reached, NoneRefused, VisitsFollow}
use Rattle.training.proofs.Epochs.{visit_made, epoch_next, epoch_cut, run_next, run_cut, epoch_run, epoch_left_out}
use Rattle.training.proofs.Accepted.{or_left, visit_counts, visits_counted, RunCounted, run_counted, begun_counted}
use Rattle.training.proofs.Reasons.{by_test, refuted}

module _ (rule : Rule) (set : Settings) (m : Model) (d : Data) where
  abbrev visit : ℕ → TrainingState → TrainingState
  visit = visited rule m d

  abbrev stop : Float → Bool
  stop = stops rule set.epsilon

  -- ---- the visits of an epoch
  -- where none was refused, the state before the next is of no refused visit
  going_before : (e j : ℕ) → ((k : ℕ) → k < j → is_refused (end_at rule set m d e k) ≡ false) → is_refused (state_before rule set m d e j).progress.visit ≡ false
  unfolding state_before through opened
  going_before e zero h = refl
  going_before e (suc j) h =
      let b = going_before e j (λ k l. h k (omega arith)) in
      rw (zero-add j, visit_made visit (order_in rule set m d e) j (state_before rule set m d e j) b) (h j (omega arith))

  -- the state after the visit, where the visit is refused, is that of the whole epoch
  epoch_refused : (e j : ℕ) → j < d.instances → ((k : ℕ) → k < j → is_refused (end_at rule set m d e k) ≡ false) → is_refused (end_at rule set m d e j) ≡ true →
      visit (instance_at rule set m d e j) (state_before rule set m d e j) ≡ epoch_over visit (order_in rule set m d e) d.instances (ran_for rule set m d e).state
  unfolding state_before
  epoch_refused e j l h r =
      let order = order_in rule set m d e in
      let s = (ran_for rule set m d e).state in
      epoch_cut visit order (j + 1) d.instances s (omega arith) r
      (epoch_next visit order j (instance_at rule set m d e j) (opened s) refl (going_before e j h) refl refl)

  -- the first n visits of an epoch: none was refused, or one was, and none before it
  data Looked (e n : ℕ) : Type 0 where
    all_well : ((k : ℕ) → k < n → is_refused (end_at rule set m d e k) ≡ false) → Looked e n
    refused_at : (j : ℕ) → j < n → ((k : ℕ) → k < j → is_refused (end_at rule set m d e k) ≡ false) → is_refused (end_at rule set m d e j) ≡ true → Looked e n

  look : (e n : ℕ) → Looked e n
  look e zero = all_well (λ k l. absurd (not-suc-le-zero l))
  look e (suc n) = go (look e n)
    where
      further : ((k : ℕ) → k < n → is_refused (end_at rule set m d e k) ≡ false) → is_refused (end_at rule set m d e n) ≡ false → (k : ℕ) → k < suc n → is_refused (end_at rule set m d e k) ≡ false
      further h f k l = here (eq-or-lt_of_le (le_of_suc-le-suc l))
        where
          here : (k ≡ n) ⊎ (k < n) → is_refused (end_at rule set m d e k) ≡ false
          here (inl p) = rw p f
          here (inr p) = h k p

      go : Looked e n → Looked e (suc n)
      go (all_well h) = by_test (is_refused (end_at rule set m d e n)) (λ t. refused_at n (omega arith) h t) (λ f. all_well (further h f))
      go (refused_at j l h t) = refused_at j (omega arith) h t

  -- ---- the epochs of a run
  -- a run is over after an epoch exactly unless training goes on
  goes_on : (e : ℕ) → Looked e d.instances → (epoch visit stop d.instances (ran_for rule set m d e)).over ≡ false → GoesOn rule set m d e
  unfolding epoch epoch_over state_before
  goes_on e (all_well h) o = record { none_refused = h; not_low = rw (going_before e d.instances h) at o }
  goes_on e (refused_at j l h t) o = absurd (true≢false (sym (ap (λ (s : TrainingState). is_refused s.progress.visit) (sym (epoch_refused e j l h t)) ∙ t) ∙ or_left _ _ o))

  not_over : (e : ℕ) → GoesOn rule set m d e → (epoch visit stop d.instances (ran_for rule set m d e)).over ≡ false
  unfolding epoch epoch_over state_before
  not_over e g = rw (going_before e d.instances g.none_refused) g.not_low

  going_on : (e : ℕ) → (ran_for rule set m d e).over ≡ false → (k : ℕ) → k < e → GoesOn rule set m d k
  unfolding through
  going_on zero o k l = absurd (not-suc-le-zero l)
  going_on (suc e) o k l =
      by_test (ran_for rule set m d e).over
      (λ p. absurd (true≢false (sym p ∙ ap (λ (r : Run). r.over) (sym (epoch_left_out visit stop d.instances (0 + e) (ran_for rule set m d e) p)) ∙ o)))
      (λ p. go (going_on e p k) (goes_on e (look e d.instances) (rw (epoch_run visit stop d.instances (0 + e) (ran_for rule set m d e) p) at o)) (eq-or-lt_of_le (le_of_suc-le-suc l)))
    where
      go : (k < e → GoesOn rule set m d k) → GoesOn rule set m d e → (k ≡ e) ⊎ (k < e) → GoesOn rule set m d k
      go before g (inl p) = rw p g
      go before g (inr p) = before p

  not_over_yet : (e : ℕ) → ((k : ℕ) → k < e → GoesOn rule set m d k) → (ran_for rule set m d e).over ≡ false
  unfolding through begun
  not_over_yet zero h = refl
  not_over_yet (suc e) h =
      let o = not_over_yet e (λ k l. h k (omega arith)) in
      rw (epoch_run visit stop d.instances (0 + e) (ran_for rule set m d e) o) (not_over e (h e (omega arith)))

  -- while a run goes on, each epoch allowed was run
  one_epoch_more : (e : ℕ) (r : Run) (b : Bool) → r.over ≡ b → (r.over ≡ false → r.epochs ≡ e) → (cond b r (epoch visit stop d.instances r)).over ≡ false → (cond b r (epoch visit stop d.instances r)).epochs ≡ suc e
  unfolding epoch
  one_epoch_more e r true p h o = absurd (true≢false (sym p ∙ o))
  one_epoch_more e r false p h o = omega (arith, h p)

  epochs_run : (e : ℕ) → (ran_for rule set m d e).over ≡ false → (ran_for rule set m d e).epochs ≡ e
  unfolding through begun epoch_unless_over
  epochs_run zero o = refl
  epochs_run (suc e) o = one_epoch_more e (ran_for rule set m d e) (ran_for rule set m d e).over refl (epochs_run e) o

  counted_to : (e : ℕ) → RunCounted d.instances e (ran_for rule set m d e) (ends_within visit stop d.instances e (begun rule set m d))
  counted_to e = run_counted visit (visit_counts rule m d) stop d.instances e (begun rule set m d) (begun_counted rule set m d)

  -- the visits done before a visit that is reached
  pub visits_before : (e j n : ℕ) → Reached rule set m d e j n → (state_before rule set m d e j).progress.visits ≡ n
  unfolding state_before opened
  visits_before e j n r =
      let c = counted_to e in
      let g = going_before e j r.none_refused in
      let a = (visits_counted visit (visit_counts rule m d) (order_in rule set m d e) j (opened (ran_for rule set m d e).state) g).visits in
      let o = not_over_yet e r.going in
      let b : (ran_for rule set m d e).state.progress.visits ≡ e * d.instances = c.visits (c.going o) ∙ ap (λ (z : ℕ). z * d.instances) (epochs_run e o) in
      omega (arith, a, b, r.number)

  -- a visit that is reached and refused is the last of the training
  pub ran_refused : (e j n : ℕ) → Reached rule set m d e j n → is_refused (end_at rule set m d e j) ≡ true → (ran rule set m d).state ≡ visit (instance_at rule set m d e j) (state_before rule set m d e j)
  unfolding ran epoch
  ran_refused e j n r t =
      let before = ran_for rule set m d e in
      let after = epoch visit stop d.instances before in
      let first = begun rule set m d in
      let s : visit (instance_at rule set m d e j) (state_before rule set m d e j) ≡ after.state = epoch_refused e j r.inside r.none_refused t in
      let refused : is_refused after.state.progress.visit ≡ true = ap (λ (x : TrainingState). is_refused x.progress.visit) (sym s) ∙ t in
      let over : after.over ≡ true = rw refused in
      let l : e + 1 ≤ set.epochs = omega (arith, r.allowed) in
      ap (λ (x : Run). x.state) (sym (run_cut visit stop d.instances (e + 1) set.epochs first l over (run_next visit stop d.instances e first (not_over_yet e r.going) refl refl))) ∙ sym s

  -- and a training that ends refused was refused at a visit that was reached
  pub record RefusedVisit (s : TrainingState) : Type 0 where
    pub epoch_at : ℕ
    pub turn : ℕ
    pub before : ℕ
    pub reached : Reached rule set m d epoch_at turn before
    pub refused : is_refused (end_at rule set m d epoch_at turn) ≡ true
    pub last : s ≡ visit (instance_at rule set m d epoch_at turn) (state_before rule set m d epoch_at turn)

  found_in : (e : ℕ) → e < set.epochs → (ran_for rule set m d e).over ≡ false → Looked e d.instances → is_refused (epoch visit stop d.instances (ran_for rule set m d e)).state.progress.visit ≡ true → RefusedVisit (epoch visit stop d.instances (ran_for rule set m d e)).state
  unfolding epoch epoch_over state_before
  found_in e l o (all_well h) t = absurd (true≢false (sym t ∙ going_before e d.instances h))
  found_in e l o (refused_at j k h r) t = record {
    epoch_at = e;
    turn = j;
    before = e * d.instances + j;
    reached = record { allowed = l; going = going_on e o; inside = k; none_refused = h; number = refl };
    refused = r;
    last = sym (epoch_refused e j k h r);
  }

  found : (e : ℕ) → e ≤ set.epochs → is_refused (ran_for rule set m d e).state.progress.visit ≡ true → RefusedVisit (ran_for rule set m d e).state
  unfolding through begun
  found zero l t = absurd (true≢false (sym t))
  found (suc e) l t =
      let before = ran_for rule set m d e in
      by_test before.over
      (λ o.
      let q = epoch_left_out visit stop d.instances (0 + e) before o in
      rw q (found e (omega arith) (rw q at t)))
      (λ o.
      let q = epoch_run visit stop d.instances (0 + e) before o in
      rw q (found_in e (omega arith) o (look e d.instances) (rw q at t)))

  pub ran_found : is_refused (ran rule set m d).state.progress.visit ≡ true → RefusedVisit (ran rule set m d).state
  unfolding ran
  ran_found t = found set.epochs (omega arith) t

  pub none_refused_so : NoneRefused rule set m d → is_refused (ran rule set m d).state.progress.visit ≡ false
  none_refused_so h =
      refuted (is_refused (ran rule set m d).state.progress.visit) (λ t.
      let f = ran_found t in
      true≢false (sym f.refused ∙ h f.epoch_at f.turn f.before f.reached))

  pub so_none_refused : is_refused (ran rule set m d).state.progress.visit ≡ false → NoneRefused rule set m d
  so_none_refused h e j n r =
      refuted (is_refused (end_at rule set m d e j)) (λ t.
      true≢false (sym t ∙ ap (λ (s : TrainingState). is_refused s.progress.visit) (sym (ran_refused e j n r t)) ∙ h))

  pub all_visits : is_refused (ran rule set m d).state.progress.visit ≡ false → (ran rule set m d).state.progress.visits ≡ (ran rule set m d).epochs * d.instances
  unfolding ran
  all_visits h = (counted_to set.epochs).visits h

-- ---- what is claimed
pub visits_follow : VisitsFollow
unfolding state_before through opened begun epoch epoch_over
visits_follow rule set m d = record {
  first = refl;
  next = λ e j n r. sym (epoch_next (visit rule set m d) (order_in rule set m d e) j (instance_at rule set m d e j) (opened (ran_for rule set m d e).state) refl (going_before rule set m d e j r.none_refused) refl refl);
  opens = λ e n r.
      let o = not_over_yet rule set m d e (λ k l. r.going k (omega arith)) in
      ap (λ (x : Run). opened x.state) (sym (run_next (visit rule set m d) (stop rule set m d) d.instances e (begun rule set m d) o refl refl));
  counted = visits_before rule set m d;
}
