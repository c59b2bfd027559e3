-- What the check of a model answers means what `Meaning` says. Assumes nothing.
use Rattle.std.specs.Prelude.{Ok}
use mathlib.Core.Path.{◌≡◌, refl}
use mathlib.Core.List.{List, [], ◌∷◌}
use mathlib.Core.Logic.{◌↔◌}
use Prim.Native.Nat.{ℕ, ◌<◌}
use native.Mathlib.Omega.{arith}
use lib.Ieee.{Float}
use Rattle.refusals.specs.Refusals.{numbered, refused_at}
use Rattle.refusals.proofs.Said.{said_once}
use Rattle.score_tables.proofs.Meant.{one_means}
use Rattle.refusal_rows.proofs.Means.{two_means}
use Rattle.refusal_rows.proofs.Groups.{Group, single, tested, given_first, given_after, accepted_when, given_only}
use Rattle.refusal_rows.proofs.TableGroups.{pair}
use Rattle.lines.specs.Tables.{Model}
use Rattle.feature_gen.specs.Rows.{model_counts, weighted_rooms, start_tests, id_tests, weight_tests, model_checked}
use Rattle.feature_gen.specs.CheckModel.{answer_to}
use Rattle.feature_gen.specs.Meaning.{Meaning, ModelsMean, AnswersMean}
use Rattle.feature_gen.proofs.Laws.{sized, room_for_weights}
use Rattle.feature_gen.proofs.Sound.{sound, weighted}

module _ (m : Model) (weights : List Float) where
  abbrev ones : Group
  ones = single (one_means m.labels)

  abbrev twos : Group
  twos = pair (two_means (model_counts m)) (two_means (weighted_rooms m weights))

  abbrev threes : Group
  threes = tested 3 (start_tests m) (refl, (refl, tt))

  abbrev fives : Group
  fives = tested 5 (id_tests m) (refl, (refl, (refl, (refl, (refl, tt)))))

  abbrev sixes : Group
  sixes = tested 6 (weight_tests m weights) (refl, tt)

  meant : Meaning (λ number place. model_checked m weights ≡ refused_at number place) (model_checked m weights ≡ Ok tt) m weights
  unfolding model_checked
  meant = record {
    one = λ place. given_first place ones (twos ∷ threes ∷ fives ∷ sixes ∷ []) tt;
    two = λ place. given_after place (ones ∷ []) twos (threes ∷ fives ∷ sixes ∷ []) tt tt;
    three = λ place. given_after place (ones ∷ twos ∷ []) threes (fives ∷ sixes ∷ []) tt tt;
    five = λ place. given_after place (ones ∷ twos ∷ threes ∷ []) fives (sixes ∷ []) tt tt;
    six = λ place. given_after place (ones ∷ twos ∷ threes ∷ fives ∷ []) sixes [] tt tt;
    only = λ number place. given_only (numbered number place) (ones ∷ twos ∷ threes ∷ fives ∷ sixes ∷ []);
    accepted = accepted_when (ones ∷ twos ∷ threes ∷ fives ∷ sixes ∷ []);
    sound = λ h.
        let a = (accepted_when (ones ∷ twos ∷ threes ∷ fives ∷ sixes ∷ [])).0 h in
        let w = room_for_weights m weights a.1.0.1 in
        weighted m weights (sound m a.0 (sized m a.1.0.0 w.0) a.1.1.0 a.1.1.1.0) w.1 a.1.1.1.1.0;
  }

pub models_mean : ModelsMean
models_mean = meant

pub answers_mean : AnswersMean
unfolding answer_to
answers_mean given outcome kept =
    let e : outcome ≡ model_checked given.model given.weights = said_once outcome (model_checked given.model given.weights) kept.answers in
    rw e (models_mean given.model given.weights)

-- another way to answer, which tells the same
pub told :
    {Refuses Answers : ℕ → ℕ → Type 0} {Accepts Takes : Type 0} {m : Model} {weights : List Float} →
    ((number place : ℕ) → Answers number place → Refuses number place) →
    ((number place : ℕ) → 0 < number → Refuses number place → Answers number place) →
    Takes ↔ Accepts →
    Meaning Refuses Accepts m weights →
    Meaning Answers Takes m weights
told to from a m = record {
  one = λ place. (λ h. (m.one place).0 (to 1 place h), λ f. from 1 place (omega arith) ((m.one place).1 f));
  two = λ place. (λ h. (m.two place).0 (to 2 place h), λ f. from 2 place (omega arith) ((m.two place).1 f));
  three = λ place. (λ h. (m.three place).0 (to 3 place h), λ f. from 3 place (omega arith) ((m.three place).1 f));
  five = λ place. (λ h. (m.five place).0 (to 5 place h), λ f. from 5 place (omega arith) ((m.five place).1 f));
  six = λ place. (λ h. (m.six place).0 (to 6 place h), λ f. from 6 place (omega arith) ((m.six place).1 f));
  only = λ number place h. m.only number place (to number place h);
  accepted = (λ h. m.accepted.0 (a.0 h), λ f. a.1 (m.accepted.1 f));
  sound = λ h. m.sound (a.0 h);
}
