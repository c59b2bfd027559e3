-- What is claimed of a training that is accepted: "The answer gives epochs run, visits and updates", each equal to what the visits themselves show. The proof is in proofs/Accepted.
use Rattle.std.specs.Prelude.{◌≡◌, Bool, true, false, cond, List, [], ◌∷◌, ◌++◌, ℕ, zero, suc, ◌+◌, ◌*◌, ◌≤◌, ◌<◌, T, length, get_or, Float, Ok}
use Rattle.std.specs.Float.{nan}
use Rattle.std.specs.Float.Ieee.Scale.{finite}
use Rattle.training.specs.declared.Visit.{Visit}
use Rattle.training.specs.declared.Visit.TheVariants.{Unchanged, Updated, Refused}
use Rattle.training.specs.declared.Trained.{Trained}
use Rattle.shuffle.specs.Shuffle.{shuffled}
use Rattle.lines.specs.Passes.{through}
use Rattle.lines.specs.Tables.{Model}
use Rattle.lines.specs.Data.{Data}
use Rattle.training.specs.Rules.{Rule, stops}
use Rattle.training.specs.Visits.{TrainingState, visited}
use Rattle.training.specs.Epochs.{Settings, Run, is_refused, opened, visited_at, epoch_unless_over, begun, trained}

abbrev pub is_updated : Visit → Bool
is_updated Unchanged = false
is_updated Updated = true
is_updated (Refused why) = false

-- in how many of a list the test holds
unfoldable pub how_many : {A : Type 0} → (A → Bool) → List A → ℕ
how_many test [] = 0
how_many test (x ∷ xs) = cond (test x) 1 0 + how_many test xs

-- ---- how the visits of a training ended, one by one; the counters have no part in this
module _ (visit : ℕ → TrainingState → TrainingState) (order : List ℕ) where
  -- of the first n visits of an epoch that begins with s, in order; after a refusal none is made
  unfoldable pub ends_over : ℕ → TrainingState → List Visit
  ends_over zero s = []
  ends_over (suc n) s =
      let before = through (visited_at visit order) 0 n s in
      ends_over n s ++ cond (is_refused before.progress.visit) [] ((visit (get_or order n 0) before).progress.visit ∷ [])

module _ (visit : ℕ → TrainingState → TrainingState) (stop : Float → Bool) (instances : ℕ) where
  -- of the first e epochs allowed, in order; when training is over none is run
  unfoldable pub ends_within : ℕ → Run → List Visit
  ends_within zero r = []
  ends_within (suc e) r =
      let before = through (epoch_unless_over visit stop instances) 0 e r in
      ends_within e r ++ cond before.over [] (ends_over visit (shuffled instances before.deal).order instances (opened before.state))

module _ (rule : Rule) (set : Settings) (m : Model) (d : Data) where
  unfoldable pub ends : List Visit
  ends = ends_within (visited rule m d) (stops rule set.epsilon) d.instances set.epochs (begun rule set m d)

  pub record AcceptedWith (t : Trained) : Type 0 where
    -- "Epochs: 1 to" as many as are allowed
    pub least : 1 ≤ t.epochs
    pub most : t.epochs ≤ set.epochs
    -- each epoch run visited each of the N instances, and no visit was refused
    pub visits : t.visits ≡ t.epochs * d.instances
    pub made : t.visits ≡ length ends
    pub sound : how_many is_refused ends ≡ 0
    -- "A visit ends as unchanged, updated or refused": those that ended as updated
    pub updates : t.updates ≡ how_many is_updated ends
    -- F weights, each of them finite
    pub long : length (trained rule set m d).weights ≡ m.features.count
    pub all_finite : (i : ℕ) → i < m.features.count → T (finite (get_or (trained rule set m d).weights i nan))

abbrev pub AnswersTrue : Type 0
AnswersTrue = (rule : Rule) (set : Settings) (m : Model) (d : Data) (t : Trained) → 1 ≤ set.epochs → (trained rule set m d).answer ≡ Ok t → AcceptedWith rule set m d t
