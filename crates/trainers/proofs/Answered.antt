-- What a trainer answers, each number both ways, as `AnswersMean` says. Assumes nothing.
use Rattle.std.specs.Prelude.{Ok, Err}
use mathlib.Core.Path.{◌≡◌, refl, sym, ◌∙◌, ap}
use mathlib.Core.List.{[], ◌∷◌}
use mathlib.Core.Logic.{◌↔◌, ◌⊎◌, inl, inr}
use Prim.Native.Nat.{ℕ, ◌≤◌, ◌<◌}
use native.Mathlib.Omega.{arith}
use lib.Dec.{T}
use lib.Ieee.Scale.{finite}
use Rattle.refusals.specs.Refusals.{numbered, refused_at}
use Rattle.refusals.specs.Said.{Said, accepted, refused}
use Rattle.refusal_rows.specs.Given.{OneOf}
use Rattle.training.specs.declared.Trained.{Trained}
use Rattle.training.specs.Rules.{beside_at_first}
use Rattle.training.specs.Reached.{TrainingEnds}
use Rattle.training.proofs.AlwaysFinite.{always_finite}
use Rattle.training.proofs.RefusedExactly.{refused_exactly}
use Rattle.parameters.specs.declared.Method.{Method}
use Rattle.parameters.specs.Trainers.{rule_for, settings_for}
use Rattle.parameters.specs.Parameters.{AllFit, own_of}
use Rattle.training_check.specs.Meaning as checks
use Rattle.training_check.proofs.Meant.{training_means}
use Rattle.trainers.specs.Promise.{Given, Buffers, said, input_of, checked_of, trained_of, answer_to}
use Rattle.trainers.specs.Meaning.{Unrefused, Meaning, AnswersMean, FiniteBeforeVisits}
use Rattle.trainers.proofs.Trained.{trained_late}
use Rattle.trainers.proofs.Meant.{accepts, refuses, trained_so, trained_not, at_most, above, among, among_late}

-- 7 has seen to it that the covariance starts at a finite variance
starts_finite : (method : Method) → AllFit (own_of method) → T (finite (beside_at_first (rule_for method)))
unfolding beside_at_first
starts_finite (Method.AveragedPerceptron p) f = tt
starts_finite (Method.PassiveAggressive p) f = tt
starts_finite (Method.Arow p) f = f.1.1.0.1

module _ (method : Method) (given : Given) (before : Buffers) where
  -- 1 to 7
  means : checks.Meaning (input_of given before) (own_of method)
  means = training_means (input_of given before) (own_of method)

  -- 8 and 9
  ends_so : checked_of method given before ≡ Ok tt → TrainingEnds (rule_for method) (settings_for method) given.model given.corpus
  ends_so h = refused_exactly (rule_for method) (settings_for method) given.model given.corpus (starts_finite method (means.sound h).1)

  -- a refusal is the checks' or, where they accept, the training's
  abbrev By : ℕ → ℕ → Type 0
  By number place = (checked_of method given before ≡ refused_at number place) ⊎ ((checked_of method given before ≡ Ok tt) × ((trained_of method given).answer ≡ Err (numbered number place)))

  by : (number place : ℕ) → answer_to method given before ≡ refused (numbered number place) → By number place
  unfolding answer_to
  by number place h = go (refuses (checked_of method given before) _ number place h)
    where
      go : (checked_of method given before ≡ refused_at number place) ⊎ ((checked_of method given before ≡ Ok tt) × (said (trained_of method given).answer ≡ refused (numbered number place))) → By number place
      go (inl c) = inl c
      go (inr t) = inr (t.0, trained_not (trained_of method given).answer number place t.1)

  -- 1 to 7 are the checks', 8 and 9 the training's
  late_one : (number place : ℕ) → (trained_of method given).answer ≡ Err (numbered number place) → OneOf (8 ∷ 9 ∷ []) number
  late_one number place t = trained_late (rule_for method) (settings_for method) given.model given.corpus _ t

  early : (number place : ℕ) → number ≤ 7 → answer_to method given before ≡ refused (numbered number place) → checked_of method given before ≡ refused_at number place
  early number place l h = go (by number place h)
    where
      go : By number place → checked_of method given before ≡ refused_at number place
      go (inl c) = c
      go (inr t) = absurd (omega (arith, above number (late_one number place t.1)))

  late : (number place : ℕ) → 7 < number → answer_to method given before ≡ refused (numbered number place) → (checked_of method given before ≡ Ok tt) × ((trained_of method given).answer ≡ Err (numbered number place))
  late number place l h = go (by number place h)
    where
      go : By number place → (checked_of method given before ≡ Ok tt) × ((trained_of method given).answer ≡ Err (numbered number place))
      go (inl c) = absurd (omega (arith, at_most number (means.only _ c)))
      go (inr t) = t

  one_of : (number place : ℕ) → By number place → OneOf (1 ∷ 2 ∷ 3 ∷ 4 ∷ 5 ∷ 6 ∷ 7 ∷ 8 ∷ 9 ∷ []) number
  one_of number place (inl c) = among number (means.only _ c)
  one_of number place (inr t) = among_late number (late_one number place t.1)

  -- and what they give is answered
  early_given : (number place : ℕ) → checked_of method given before ≡ refused_at number place → answer_to method given before ≡ refused (numbered number place)
  unfolding answer_to
  early_given number place c = rw c

  by_checks : (number : ℕ) → number ≤ 7 → {At : ℕ → Type 0} → ((place : ℕ) → checked_of method given before ≡ refused_at number place ↔ At place) → (place : ℕ) → answer_to method given before ≡ refused (numbered number place) ↔ At place
  by_checks number l e place = (λ h. (e place).0 (early number place l h), λ f. early_given number place ((e place).1 f))

  training_given : checked_of method given before ≡ Ok tt → answer_to method given before ≡ said (trained_of method given).answer
  unfolding answer_to
  training_given c = rw c

  accepted_so : (t : Trained) → answer_to method given before ≡ accepted t → (checked_of method given before ≡ Ok tt) × ((trained_of method given).answer ≡ Ok t)
  unfolding answer_to
  accepted_so t h =
      let a = accepts (checked_of method given before) _ t.epochs t.visits t.updates h in
      (a.0, trained_so _ t.epochs t.visits t.updates a.1)

  -- of what document 01 says
  pub answer_means : Meaning (λ number place. answer_to method given before ≡ refused (numbered number place)) ((t : Trained) × (answer_to method given before ≡ accepted t)) method given before
  answer_means = record {
    one = by_checks 1 (omega arith) means.one;
    two = by_checks 2 (omega arith) means.two;
    three = by_checks 3 (omega arith) means.three;
    four = by_checks 4 (omega arith) means.four;
    five = by_checks 5 (omega arith) means.five;
    six = by_checks 6 (omega arith) means.six;
    seven = by_checks 7 (omega arith) means.seven;
    eight = λ place. (
      λ h. let t = late 8 place (omega arith) h in (means.accepted.0 t.0, ((ends_so t.0).eight place).0 t.1),
      λ f. let c = means.accepted.1 f.0 in training_given c ∙ ap said (((ends_so c).eight place).1 f.1),
    );
    nine = λ place. (
      λ h. let t = late 9 place (omega arith) h in (means.accepted.0 t.0, ((ends_so t.0).nine place).0 t.1),
      λ f. let c = means.accepted.1 f.0 in training_given c ∙ ap said (((ends_so c).nine place).1 f.1),
    );
    only = λ number place h. one_of number place (by number place h);
    accepted = (
      λ a. let t = accepted_so a.0 a.1 in (means.accepted.0 t.0, (ends_so t.0).accepted.0 (a.0, t.1)),
      λ f. let c = means.accepted.1 f.0 in let t = (ends_so c).accepted.1 f.1 in (t.0, training_given c ∙ ap said t.1),
    );
  }

-- another way to answer, which tells the same
module _ {Refuses Answers : ℕ → ℕ → Type 0} (to : (number place : ℕ) → Answers number place → Refuses number place) (from : (number place : ℕ) → 0 < number → Refuses number place → Answers number place) where
  relay : (number : ℕ) → 0 < number → {At : ℕ → Type 0} → ((place : ℕ) → Refuses number place ↔ At place) → (place : ℕ) → Answers number place ↔ At place
  relay number l e place = (λ h. (e place).0 (to number place h), λ f. from number place l ((e place).1 f))

  pub told : {Accepts Accepted : Type 0} {method : Method} {given : Given} {before : Buffers} → Accepted ↔ Accepts → Meaning Refuses Accepts method given before → Meaning Answers Accepted method given before
  told a m = record {
    one = relay 1 (omega arith) m.one;
    two = relay 2 (omega arith) m.two;
    three = relay 3 (omega arith) m.three;
    four = relay 4 (omega arith) m.four;
    five = relay 5 (omega arith) m.five;
    six = relay 6 (omega arith) m.six;
    seven = relay 7 (omega arith) m.seven;
    eight = relay 8 (omega arith) m.eight;
    nine = relay 9 (omega arith) m.nine;
    only = λ number place h. m.only number place (to number place h);
    accepted = (λ h. m.accepted.0 (a.0 h), λ f. a.1 (m.accepted.1 f));
  }

pub answers_mean : AnswersMean
answers_mean method given before outcome kept =
    told
    (λ number place h. sym kept.answers ∙ h)
    (λ number place _ h. kept.answers ∙ h) (
      λ a. (record { epochs = a.epochs; visits = a.visits; updates = a.updates }, sym kept.answers ∙ a.answers),
      λ a. record { epochs = a.0.epochs; visits = a.0.visits; updates = a.0.updates; answers = kept.answers ∙ a.1 },
    )
    (answer_means method given before)

pub finite_before_visits : FiniteBeforeVisits
finite_before_visits method given before u =
    always_finite (rule_for method) (settings_for method) given.model given.corpus (starts_finite method ((means method given before).sound ((means method given before).accepted.1 u)).1)
