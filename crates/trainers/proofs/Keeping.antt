-- From what the checks and the training give, to the promise. Assumes nothing.
use Rattle.training.specs.declared.Trained.{Trained}
use Rattle.std.specs.Prelude.{Ok, Err, Result}
use mathlib.Core.Path.{◌≡◌, refl, sym, ap, ◌∙◌}
use mathlib.Core.List.{List, ◌++◌}
use Prim.Native.Nat.{ℕ, ◌≤◌}
use lib.ListN.{length, take, drop}
use lib.Seq.{length-take-le}
use lib.Ieee.{Float}
use Rattle.refusals.specs.declared.Refusal.{Refusal}
use Rattle.refusals.specs.Refusals.{Checked, first_from}
use Rattle.refusals.specs.Bounds.{the_epochs, most}
use Rattle.lines.specs.Tables.{Model}
use Rattle.lines.specs.Data.{Data}
use Rattle.training.specs.Rules.{Rule}
use Rattle.training.specs.Epochs.{Settings, TrainingResult, trained}
use Rattle.begin_and_end.specs.Ending.{Swept}
use Rattle.prediction.specs.declared.Sizes.{Sizes}
use Rattle.parameters.specs.declared.Method.{Method}
use Rattle.parameters.specs.Trainers.{rule_for, settings_for}
use Rattle.parameters.specs.Parameters.{AllFit, sevens, own_of}
use Rattle.training_check.specs.Parts.{input_checked}
use Rattle.training_check.specs.Sound.{SoundInput}
use Rattle.training_check.proofs.Laws.{with_parameters}
use Rattle.training_check.proofs.Meant.{training_means}
use Rattle.trainers.specs.Promise.{Given, Buffers, said, input_of, checked_of, trained_of, answer_to, buffers_after, Promised}

-- a front that fits is as long as it is meant to be
pub front_long : {A : Type 0} (n : ℕ) (table : List A) → n ≤ length table → length (take n table) ≡ n
front_long n table h = length-take-le n table h

pub front_count : {A : Type 0} (n : ℕ) (table : List A) → n ≤ length table → n ≡ length (take n table)
front_count n table h = sym (front_long n table h)

-- what a training over the fronts leaves in them
pub record Learned (rule : Rule) (settings : Settings) (model : Model) (corpus : Data) (features instances : ℕ) (answer : Result Trained Refusal) (weights beside truly predicted : List Float) (order : List ℕ) : Type 0 where
  result : ◌≡◌ {A = TrainingResult} (record { answer = answer; weights = weights }) (trained rule settings model corpus)
  swept : Swept features instances order beside truly predicted

-- the counts inside are those of the call
pub resized : (model : Sizes → Model) (corpus : Sizes → Data) {sizes wanted : Sizes} {rule : Rule} {settings : Settings} {answer : Result Trained Refusal} {weights beside truly predicted : List Float} {order : List ℕ} →
    sizes ≡ wanted →
    ◌≡◌ {A = TrainingResult} (record { answer = answer; weights = weights }) (trained rule settings (model sizes) (corpus sizes)) →
    Swept sizes.features sizes.instances order beside truly predicted →
    Learned rule settings (model wanted) (corpus wanted) wanted.features wanted.instances answer weights beside truly predicted order
resized model corpus e r s = rw (← e) (record { result = r; swept = s })

few_epochs : (method : Method) → AllFit (own_of method) → (settings_for method).epochs ≤ most the_epochs
few_epochs (Method.AveragedPerceptron p) f = f.0.1
few_epochs (Method.PassiveAggressive p) f = f.0.1
few_epochs (Method.Arow p) f = f.0.1

-- what training relies on
pub record Ready (method : Method) (given : Given) (before : Buffers) : Type 0 where
  pub sound : SoundInput (input_of given before)
  pub few : (settings_for method).epochs ≤ most the_epochs

module _ (method : Method) (given : Given) (before : Buffers) where
  -- the input's checks, then those of the parameters
  pub checked_is : {input checked : Checked} → input ≡ input_checked (input_of given before) → checked ≡ first_from input (sevens (own_of method)) → checked ≡ checked_of method given before
  checked_is e f = f ∙ ap (λ (c : Checked). first_from c (sevens (own_of method))) e ∙ with_parameters (input_of given before) (own_of method)

  -- nothing of 1 to 7 applies, as far as training relies on it
  pub ready : checked_of method given before ≡ Ok tt → Ready method given before
  ready h =
      let s = (training_means (input_of given before) (own_of method)).sound h in
      record { sound = s.0; few = few_epochs method s.1 }

  -- a refusal leaves the buffers
  pub refused_promised : (why : Refusal) → checked_of method given before ≡ Err why → Promised method given before (record { answer = Err why; after = before })
  unfolding answer_to buffers_after
  refused_promised why h = record { answers = rw h; after = rw h }

  -- what is accepted is learned over the fronts, which are put back before what stood behind them
  pub learned_promised : {rule : Rule} {settings : Settings} {answer : Result Trained Refusal} {weights beside truly predicted : List Float} {order : List ℕ} →
      checked_of method given before ≡ Ok tt → rule ≡ rule_for method → settings ≡ settings_for method →
      Learned rule settings given.model given.corpus given.model.features.count given.corpus.instances answer weights beside truly predicted order →
      Promised method given before (record {
        answer = answer;
        after = record {
          weights = weights ++ drop given.model.features.count before.weights;
          beside = beside ++ drop given.model.features.count before.beside;
          truly = truly ++ drop given.model.features.count before.truly;
          predicted = predicted ++ drop given.model.features.count before.predicted;
          order = order ++ drop given.corpus.instances before.order;
        };
      })
  unfolding answer_to buffers_after
  learned_promised {answer = answer} {weights = weights} h r s l =
      let e : ◌≡◌ {A = TrainingResult} (record { answer = answer; weights = weights }) (trained_of method given) = rw (← r, ← s) l.result in
      record {
        answers = rw h (ap (λ (x : TrainingResult). said x.answer) e);
        after = rw h (λ i. record {
          weights = (e i).weights ++ drop given.model.features.count before.weights;
          beside = l.swept.beside_is i ++ drop given.model.features.count before.beside;
          truly = l.swept.truly_is i ++ drop given.model.features.count before.truly;
          predicted = l.swept.predicted_is i ++ drop given.model.features.count before.predicted;
          order = l.swept.order_is i ++ drop given.corpus.instances before.order;
        });
      }
