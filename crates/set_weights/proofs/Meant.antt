-- What `set_weights` answers means what `Meaning` says. Assumes nothing.
use mathlib.Core.Path.{◌≡◌, refl}
use mathlib.Core.List.{[], ◌∷◌}
use mathlib.Core.Logic.{◌↔◌}
use Prim.Native.Nat.{ℕ, ◌<◌}
use native.Mathlib.Omega.{arith}
use lib.ListN.{length}
use Rattle.refusals.specs.Refusals.{numbered}
use Rattle.refusals.proofs.Said.{said_once}
use Rattle.refusal_rows.proofs.Means.{two_means}
use Rattle.refusal_rows.proofs.Groups.{tested, given_first, given_after, accepted_when, given_only}
use Rattle.refusal_rows.proofs.TableGroups.{pair}
use Rattle.set_weights.specs.SetWeights.{Setting, new_counts, new_rooms, new_tests, new_checked, answer_to}
use Rattle.set_weights.specs.Meaning.{Meaning, NewWeightsMean, AnswersMean}

pub new_weights_mean : NewWeightsMean
unfolding new_checked
new_weights_mean given have =
    let twos = pair (two_means (new_counts given)) (two_means (new_rooms given have)) in
    let sixes = tested 6 (new_tests given) (refl, tt) in
    record {
      two = λ place. given_first place twos (sixes ∷ []) tt;
      six = λ place. given_after place (twos ∷ []) sixes [] tt tt;
      only = λ number place. given_only (numbered number place) (twos ∷ sixes ∷ []);
      accepted = accepted_when (twos ∷ sixes ∷ []);
    }

pub answers_mean : AnswersMean
unfolding answer_to
answers_mean given before outcome kept =
    let e : outcome.answer ≡ new_checked given (length before) = said_once outcome.answer (new_checked given (length before)) kept.answers in
    rw e (new_weights_mean given (length before))

-- another way to answer, which tells the same
pub told :
    {Refuses Answers : ℕ → ℕ → Type 0} {Accepts Takes : Type 0} {given : Setting} {have : ℕ} →
    ((number place : ℕ) → Answers number place → Refuses number place) →
    ((number place : ℕ) → 0 < number → Refuses number place → Answers number place) →
    Takes ↔ Accepts →
    Meaning Refuses Accepts given have →
    Meaning Answers Takes given have
told to from a m = record {
  two = λ place. (λ h. (m.two place).0 (to 2 place h), λ f. from 2 place (omega arith) ((m.two place).1 f));
  six = λ place. (λ h. (m.six place).0 (to 6 place h), λ f. from 6 place (omega arith) ((m.six place).1 f));
  only = λ number place h. m.only number place (to number place h);
  accepted = (λ h. m.accepted.0 (a.0 h), λ f. a.1 (m.accepted.1 f));
}
