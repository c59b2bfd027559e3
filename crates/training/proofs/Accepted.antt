-- An accepted training answers what its visits show: epochs, visits and updates, and as many finite weights as there are features. Assumes nothing.
use Rattle.std.specs.Prelude.{Ok, Err, Result}
use Rattle.refusals.specs.declared.Refusal.{Refusal}
use mathlib.Core.Path.{◌≡◌, refl, sym, ap, ◌∙◌}
use mathlib.Core.Bool.{Bool, true, false, cond, ◌||◌, true≢false}
use mathlib.Core.List.{List, [], ◌∷◌, ◌++◌}
use Prim.Native.Nat.{ℕ, zero, suc, ◌+◌, ◌*◌, ◌≤◌}
use native.Mathlib.Nat.{zero-add}
use native.Mathlib.Omega.{arith}
use lib.ListN.{length, get_or, set, length-append, length-replicate}
use lib.Ieee.{Float}
use Rattle.training.specs.declared.Visit.{Visit}
use Rattle.training.specs.declared.Visit.TheVariants.{Unchanged, Updated, Refused}
use Rattle.training.specs.declared.Trained.{Trained}
use Rattle.shuffle.specs.Shuffle.{shuffled}
use Rattle.lines.specs.Passes.{through}
use Rattle.binary64.specs.Numbers.{nought, whole}
use Rattle.lines.specs.Tables.{Model}
use Rattle.lines.specs.Data.{Data}
use Rattle.fronts.specs.Finite.{all_finite_of}
use Rattle.fronts.proofs.Finite.{all_finite_at}
use Rattle.training.specs.Rules.{Rule, stops, averaged_by}
use Rattle.training.specs.Visits.{TrainingState, refused_as, unchanged, changed_to, visited}
use Rattle.training.specs.Epochs.{Settings, Run, TrainingResult, is_refused, opened, visited_at, epoch_over, epoch, epoch_unless_over, begun, ran, refused_with, averaged, finished, trained}
use Rattle.training.specs.Accepted.{is_updated, how_many, ends_over, ends_within, ends, AcceptedWith, AnswersTrue}
use Rattle.training.proofs.OneVisit.{visit_cases}
use Rattle.training.proofs.Weights.{Long, average_long, visit_long, run_long}

how_many_append : {A : Type 0} (test : A → Bool) (xs ys : List A) → how_many test (xs ++ ys) ≡ how_many test xs + how_many test ys
unfolding how_many
how_many_append test [] ys = sym (zero-add _)
how_many_append test (x ∷ xs) ys = omega (arith, how_many_append test xs ys)

-- ---- one visit
pub record CountsOne (s t : TrainingState) : Type 0 where
  pub visits : t.progress.visits ≡ s.progress.visits + 1
  pub updates : t.progress.updates ≡ s.progress.updates + cond (is_updated t.progress.visit) 1 0

module _ (rule : Rule) (m : Model) (d : Data) where
  pub visit_counts : (i : ℕ) (s : TrainingState) → is_refused (visited rule m d i s).progress.visit ≡ false → CountsOne s (visited rule m d i s)
  unfolding refused_as unchanged changed_to
  visit_counts i s =
      visit_cases rule m d i s (λ t. is_refused t.progress.visit ≡ false → CountsOne s t)
      (λ number r. absurd (true≢false r))
      (λ z r. record { visits = refl; updates = omega arith })
      (λ z k r. record { visits = refl; updates = refl })

-- ---- the visits of an epoch: from s to t there are n, which ended so
pub record Counted (s t : TrainingState) (n : ℕ) (vs : List Visit) : Type 0 where
  pub visits : t.progress.visits ≡ s.progress.visits + n
  pub made : length vs ≡ n
  pub sound : how_many is_refused vs ≡ 0
  pub updates : t.progress.updates ≡ s.progress.updates + how_many is_updated vs

one_more : (s t u : TrainingState) (n : ℕ) (vs : List Visit) → (is_refused t.progress.visit ≡ false → Counted s t n vs) → (is_refused u.progress.visit ≡ false → CountsOne t u) →
    (b : Bool) → is_refused t.progress.visit ≡ b → is_refused (cond b t u).progress.visit ≡ false → Counted s (cond b t u) (suc n) (vs ++ cond b [] (u.progress.visit ∷ []))
unfolding how_many
one_more s t u n vs c o true e r = absurd (true≢false (sym e ∙ r))
one_more s t u n vs c o false e r =
    let k = c e in
    let l = o r in
    record {
      visits = omega (arith, k.visits, l.visits);
      made = length-append vs _ ∙ omega (arith, k.made);
      sound = how_many_append is_refused vs _ ∙ rw r (omega (arith, k.sound));
      updates = rw (how_many_append is_updated vs) (omega (arith, k.updates, l.updates));
    }

module _ (visit : ℕ → TrainingState → TrainingState) (counts : (i : ℕ) (s : TrainingState) → is_refused (visit i s).progress.visit ≡ false → CountsOne s (visit i s)) where
  pub visits_counted : (order : List ℕ) (n : ℕ) (s : TrainingState) → is_refused (through (visited_at visit order) 0 n s).progress.visit ≡ false → Counted s (through (visited_at visit order) 0 n s) n (ends_over visit order n s)
  unfolding through ends_over how_many visited_at
  visits_counted order zero s r = record { visits = omega arith; made = refl; sound = refl; updates = omega arith }
  visits_counted order (suc n) s r =
      let t = through (visited_at visit order) 0 n s in
      rw (zero-add n) (one_more s t (visit (get_or order n 0) t) n (ends_over visit order n s) (visits_counted order n s) (counts (get_or order n 0) t) (is_refused t.progress.visit) refl (rw (zero-add n) at r))

-- ---- the epochs of a run: after e that were allowed, and visits that ended so
pub or_left : (a b : Bool) → a || b ≡ false → a ≡ false
or_left true b e = e
or_left false b e = refl

pub record RunCounted (instances e : ℕ) (r : Run) (vs : List Visit) : Type 0 where
  -- a run that goes on was not refused, and one that is over has run an epoch
  pub going : r.over ≡ false → is_refused r.state.progress.visit ≡ false
  pub ended : r.over ≡ true → 1 ≤ r.epochs
  pub least : 1 ≤ e → 1 ≤ r.epochs
  pub most : r.epochs ≤ e
  pub visits : is_refused r.state.progress.visit ≡ false → r.state.progress.visits ≡ r.epochs * instances
  pub made : is_refused r.state.progress.visit ≡ false → r.state.progress.visits ≡ length vs
  pub sound : is_refused r.state.progress.visit ≡ false → how_many is_refused vs ≡ 0
  pub updates : is_refused r.state.progress.visit ≡ false → r.state.progress.updates ≡ how_many is_updated vs

module _ (visit : ℕ → TrainingState → TrainingState) (counts : (i : ℕ) (s : TrainingState) → is_refused (visit i s).progress.visit ≡ false → CountsOne s (visit i s)) (stop : Float → Bool) (instances : ℕ) where
  one_epoch_more : (e : ℕ) (r : Run) (vs : List Visit) → RunCounted instances e r vs → (b : Bool) → r.over ≡ b →
      RunCounted instances (suc e) (cond b r (epoch visit stop instances r)) (vs ++ cond b [] (ends_over visit (shuffled instances r.deal).order instances (opened r.state)))
  unfolding epoch epoch_over opened how_many
  one_epoch_more e r vs c true o = record {
    going = c.going;
    ended = c.ended;
    least = λ _. c.ended o;
    most = omega (arith, c.most);
    visits = c.visits;
    made = λ f. c.made f ∙ sym (length-append vs [] ∙ omega arith);
    sound = λ f. how_many_append is_refused vs [] ∙ omega (arith, c.sound f);
    updates = λ f. c.updates f ∙ sym (how_many_append is_updated vs [] ∙ omega arith);
  }
  one_epoch_more e r vs c false o =
      let order = (shuffled instances r.deal).order in
      let ws = ends_over visit order instances (opened r.state) in
      let g = c.going o in
      let k = visits_counted visit counts order instances (opened r.state) in
      record {
        going = λ f. or_left _ _ f;
        ended = λ _. omega arith;
        least = λ _. omega arith;
        most = omega (arith, c.most);
        visits = λ f. omega (arith, (k f).visits, c.visits g);
        made = λ f. omega (arith, (k f).visits, c.made g, length-append vs ws, (k f).made);
        sound = λ f. how_many_append is_refused vs ws ∙ omega (arith, (k f).sound, c.sound g);
        updates = λ f. omega (arith, (k f).updates, c.updates g, how_many_append is_updated vs ws);
      }

  pub run_counted : (e : ℕ) (r : Run) → RunCounted instances 0 r [] → RunCounted instances e (through (epoch_unless_over visit stop instances) 0 e r) (ends_within visit stop instances e r)
  unfolding through ends_within epoch_unless_over
  run_counted zero r c = c
  run_counted (suc e) r c =
      let t = through (epoch_unless_over visit stop instances) 0 e r in
      one_epoch_more e t (ends_within visit stop instances e r) (run_counted e r c) t.over refl

-- ---- the answer
module _ (rule : Rule) (set : Settings) (m : Model) (d : Data) where
  -- what the final averaging makes of a run
  abbrev last : Run → List Float
  last r = averaged_by rule m.features.count (whole (r.state.progress.visits + 1)) r.state.learned

  record Finished (r : Run) (t : Trained) (w : List Float) : Type 0 where
    told : t ≡ record { epochs = r.epochs; visits = r.state.progress.visits; updates = r.state.progress.updates }
    kept : w ≡ last r
    sound : all_finite_of (last r) m.features.count ≡ true

  -- an answer that is accepted is not refused
  abbrev is_accepted : Result Trained Refusal → Bool
  is_accepted (Ok t) = true
  is_accepted (Err why) = false

  -- accepted by that test
  abbrev tested : Run → Bool → TrainingResult
  tested r b = cond b (record { answer = Ok (record { epochs = r.epochs; visits = r.state.progress.visits; updates = r.state.progress.updates }); weights = last r }) (refused_with rule set m d (record { number = 9; place = r.state.progress.visits }))

  averaged_so : (r : Run) (t : Trained) → (averaged rule set m d r).answer ≡ Ok t → Finished r t (averaged rule set m d r).weights
  unfolding averaged refused_with
  averaged_so r t = go (all_finite_of (last r) m.features.count) refl
    where
      go : (b : Bool) → all_finite_of (last r) m.features.count ≡ b → (tested r b).answer ≡ Ok t → Finished r t (tested r b).weights
      go true f e = record { told = cc; kept = refl; sound = f }
      go false f e = absurd (true≢false (sym (ap is_accepted e)))

  finished_so : (v : Visit) (r : Run) (t : Trained) → (finished rule set m d v r).answer ≡ Ok t → (is_refused v ≡ false) × Finished r t (finished rule set m d v r).weights
  unfolding finished refused_with
  finished_so Unchanged r t e = (refl, averaged_so r t e)
  finished_so Updated r t e = (refl, averaged_so r t e)
  finished_so (Refused why) r t e = absurd (true≢false (sym (ap is_accepted e)))

-- what the run and its last averaging give, put together
put_together : (rule : Rule) (set : Settings) (m : Model) (d : Data) (t : Trained) → 1 ≤ set.epochs → is_refused (ran rule set m d).state.progress.visit ≡ false →
    RunCounted d.instances set.epochs (ran rule set m d) (ends rule set m d) → Long m.features.count (ran rule set m d).state.learned → Finished rule set m d (ran rule set m d) t (trained rule set m d).weights →
    AcceptedWith rule set m d t
put_together rule set m d t h v c l f =
    let n = m.features.count in
    let e : t.epochs ≡ (ran rule set m d).epochs = ap (λ (x : Trained). x.epochs) f.told in
    record {
      least = omega (arith, c.least h);
      most = omega (arith, c.most);
      visits = ap (λ (x : Trained). x.visits) f.told ∙ c.visits v ∙ ap (λ (x : ℕ). x * d.instances) (sym e);
      made = ap (λ (x : Trained). x.visits) f.told ∙ c.made v;
      sound = c.sound v;
      updates = ap (λ (x : Trained). x.updates) f.told ∙ c.updates v;
      long = ap length f.kept ∙ average_long n rule n _ (ran rule set m d).state.learned l;
      all_finite = λ i k. rw f.kept (all_finite_at (last rule set m d (ran rule set m d)) n f.sound i k);
    }

pub begun_counted : (rule : Rule) (set : Settings) (m : Model) (d : Data) → RunCounted d.instances 0 (begun rule set m d) []
unfolding begun how_many
begun_counted rule set m d = record {
  going = λ o. refl;
  ended = λ o. absurd (true≢false (sym o));
  least = λ z. z;
  most = omega arith;
  visits = λ o. omega arith;
  made = λ o. refl;
  sound = λ o. refl;
  updates = λ o. refl;
}

pub answers_true : AnswersTrue
unfolding trained ran ends begun
answers_true rule set m d t h e =
    let n = m.features.count in
    let r = ran rule set m d in
    let visit = visited rule m d in
    let stop = stops rule set.epsilon in
    let f = finished_so rule set m d r.state.progress.visit r t e in
    put_together rule set m d t h f.0
    (run_counted visit (visit_counts rule m d) stop d.instances set.epochs (begun rule set m d) (begun_counted rule set m d))
    (run_long visit n (visit_long rule m d n) stop d.instances set.epochs (begun rule set m d) (length-replicate n nought))
    f.1
