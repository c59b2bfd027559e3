-- What a trainer answers means what `Meaning` says. Assumes nothing.
use Rattle.refusals.specs.declared.Refusal.{Refusal}
use Rattle.std.specs.Prelude.{Ok, Err, Result}
use mathlib.Core.Path.{◌≡◌, refl, sym, ◌∙◌, ap}
use mathlib.Core.List.{List, [], ◌∷◌, ◌++◌}
use mathlib.Core.Logic.{◌⊎◌, inl, inr}
use Prim.Native.Nat.{ℕ, ◌≤◌, ◌<◌}
use native.Mathlib.Omega.{arith}
use lib.ListN.{drop, get_or-append}
use lib.Ieee.{nan}
use Rattle.refusals.specs.Refusals.{Checked, numbered, refused_at}
use Rattle.refusals.specs.Said.{Said, refused, or_refused}
use Rattle.refusals.proofs.Said.{same_given, same_refusal}
use Rattle.refusal_rows.specs.Given.{OneOf}
use Rattle.training.specs.declared.Trained.{Trained}
use Rattle.training.proofs.Accepted.{answers_true}
use Rattle.parameters.specs.Parameters.{AllFit, own_of}
use Rattle.training_check.proofs.Meant.{training_means}
use Rattle.parameters.specs.declared.Method.{Method}
use Rattle.parameters.specs.Trainers.{rule_for, settings_for}
use Rattle.trainers.specs.Promise.{Given, Buffers, Outcome, trained_with, said, input_of, checked_of, trained_of, answer_to, buffers_after, Promised}
use Rattle.trainers.specs.Meaning.{AcceptedTrue, RefusedMeans, RefusedTrue}
use Rattle.trainers.proofs.Trained.{trained_late, trained_zero}
use Rattle.trainers.proofs.Fronts.{after_is, fronts}

-- an answer that is accepted comes from the training
pub accepts : (checked : Checked) (next : Said Trained) (epochs visits updates : ℕ) → or_refused checked next ≡ trained_with epochs visits updates → (checked ≡ Ok tt) × (next ≡ trained_with epochs visits updates)
accepts (Ok _) next epochs visits updates h = (refl, h)
accepts (Err why) next epochs visits updates h = let z : ◌≡◌ {A = ℕ} 0 1 = cc in absurd (omega arith)

pub trained_so : (a : Result Trained Refusal) (epochs visits updates : ℕ) → said a ≡ trained_with epochs visits updates → a ≡ Ok (record { epochs = epochs; visits = visits; updates = updates })
trained_so (Ok t) epochs visits updates h = ap Ok (same_given h)
trained_so (Err why) epochs visits updates h = let z : ◌≡◌ {A = ℕ} 0 1 = cc in absurd (omega arith)

-- 7 has seen to it that an epoch is allowed
some_epochs : (method : Method) → AllFit (own_of method) → 1 ≤ (settings_for method).epochs
some_epochs (Method.AveragedPerceptron p) f = f.0.0
some_epochs (Method.PassiveAggressive p) f = f.0.0
some_epochs (Method.Arow p) f = f.0.0

pub accepted_true : AcceptedTrue
unfolding answer_to
accepted_true method given before outcome kept epochs visits updates answer =
    let a = accepts (checked_of method given before) _ epochs visits updates (sym kept.answers ∙ answer) in
    let means = training_means (input_of given before) (own_of method) in
    let f = given.model.features.count in
    let t = answers_true (rule_for method) (settings_for method) given.model given.corpus _ (some_epochs method (means.sound a.0).1) (trained_so _ epochs visits updates a.1) in
    record {
      unrefused = means.accepted.0 a.0;
      least = t.least;
      most = t.most;
      visits_are = t.visits;
      made = t.made;
      none_refused = t.sound;
      updates_are = t.updates;
      all_finite = λ i l.
          let g = get_or-append (trained_of method given).weights (drop f before.weights) nan i (omega (arith, l, t.long)) in
          rw (after_is method given before outcome kept a.0, g) (t.all_finite i l);
    }

-- ---- refusals

pub trained_not : (a : Result Trained Refusal) (number place : ℕ) → said a ≡ refused (numbered number place) → a ≡ Err (numbered number place)
trained_not (Ok t) number place h = let z : ◌≡◌ {A = ℕ} 0 1 = cc in absurd (omega arith)
trained_not (Err why) number place h = ap Err (same_refusal h)

pub refuses : (checked : Checked) (next : Said Trained) (number place : ℕ) → or_refused checked next ≡ refused (numbered number place) → (checked ≡ refused_at number place) ⊎ ((checked ≡ Ok tt) × (next ≡ refused (numbered number place)))
refuses (Ok _) next number place h = inr (refl, h)
refuses (Err why) next number place h = inl (ap Err (same_refusal h))

-- 1 to 7 are not 8 and 9
pub at_most : (number : ℕ) → OneOf (1 ∷ 2 ∷ 3 ∷ 4 ∷ 5 ∷ 6 ∷ 7 ∷ []) number → number ≤ 7
at_most number (inl e) = omega arith
at_most number (inr (inl e)) = omega arith
at_most number (inr (inr (inl e))) = omega arith
at_most number (inr (inr (inr (inl e)))) = omega arith
at_most number (inr (inr (inr (inr (inl e))))) = omega arith
at_most number (inr (inr (inr (inr (inr (inl e)))))) = omega arith
at_most number (inr (inr (inr (inr (inr (inr (inl e))))))) = omega arith
at_most number (inr (inr (inr (inr (inr (inr (inr e))))))) = elim e [ ]

pub above : (number : ℕ) → OneOf (8 ∷ 9 ∷ []) number → 7 < number
above number (inl e) = omega arith
above number (inr (inl e)) = omega arith
above number (inr (inr e)) = elim e [ ]

-- one of some is one of more
in_more : (some more : List ℕ) (number : ℕ) → OneOf some number → OneOf (some ++ more) number
in_more [] more number h = absurd h
in_more (this ∷ some) more number (inl e) = inl e
in_more (this ∷ some) more number (inr h) = inr (in_more some more number h)

pub among : (number : ℕ) → OneOf (1 ∷ 2 ∷ 3 ∷ 4 ∷ 5 ∷ 6 ∷ 7 ∷ []) number → OneOf (1 ∷ 2 ∷ 3 ∷ 4 ∷ 5 ∷ 6 ∷ 7 ∷ 8 ∷ 9 ∷ []) number
among number h = in_more (1 ∷ 2 ∷ 3 ∷ 4 ∷ 5 ∷ 6 ∷ 7 ∷ []) (8 ∷ 9 ∷ []) number h

pub among_late : (number : ℕ) → OneOf (8 ∷ 9 ∷ []) number → OneOf (1 ∷ 2 ∷ 3 ∷ 4 ∷ 5 ∷ 6 ∷ 7 ∷ 8 ∷ 9 ∷ []) number
among_late number h = inr (inr (inr (inr (inr (inr (inr h))))))

module _ (method : Method) (given : Given) (before : Buffers) (outcome : Outcome) (kept : Promised method given before outcome) (number place : ℕ) where
  early_means : checked_of method given before ≡ refused_at number place → RefusedMeans method given before outcome.after number place
  unfolding buffers_after
  early_means h =
      let one = (training_means (input_of given before) (own_of method)).only _ h in
      record {
        only = among number one;
        early = λ l. (h, rw h at kept.after);
        late = λ l. absurd (omega (arith, at_most number one));
      }

  late_means : checked_of method given before ≡ Ok tt → said (trained_of method given).answer ≡ refused (numbered number place) → RefusedMeans method given before outcome.after number place
  late_means h t =
      let e = trained_not (trained_of method given).answer number place t in
      let one = trained_late (rule_for method) (settings_for method) given.model given.corpus _ e in
      let f = fronts method given before outcome kept h in
      record {
        only = among_late number one;
        early = λ l. absurd (omega (arith, above number one));
        late = λ l. (
          (training_means (input_of given before) (own_of method)).accepted.0 h,
          record {
            weights = f.weights ∙ trained_zero (rule_for method) (settings_for method) given.model given.corpus _ e;
            beside = f.beside;
            truly = f.truly;
            predicted = f.predicted;
            order = f.order;
          },
        );
      }

  refused_means : (checked_of method given before ≡ refused_at number place) ⊎ ((checked_of method given before ≡ Ok tt) × (said (trained_of method given).answer ≡ refused (numbered number place))) → RefusedMeans method given before outcome.after number place
  refused_means (inl h) = early_means h
  refused_means (inr h) = late_means h.0 h.1

pub refused_true : RefusedTrue
unfolding answer_to
refused_true method given before outcome kept number place answer =
    refused_means method given before outcome kept number place (refuses (checked_of method given before) _ number place (sym kept.answers ∙ answer))
