-- What the buffers held when they were lent has no part in what a trainer gives. Assumes nothing.
use mathlib.Core.Path.{◌≡◌, sym, ◌∙◌, ap}
use Rattle.refusals.specs.Refusals.{Checked}
use Rattle.refusals.specs.Said.{or_refused}
use Rattle.training_check.specs.Rows.{training_checked}
use Rattle.parameters.specs.declared.Method.{Method}
use Rattle.parameters.specs.Parameters.{own_of}
use Rattle.trainers.specs.Promise.{Given, Buffers, said, checked_of, trained_of, answer_to}
use Rattle.trainers.specs.SameAnswer.{SameLengths, SameAnswer}
use Rattle.trainers.proofs.Unique.{told}
use Rattle.trainers.proofs.Fronts.{fronts}

module _ (method : Method) (given : Given) (before other : Buffers) (s : SameLengths before other) where
  -- the checks ask for lengths alone
  same_checked : checked_of method given before ≡ checked_of method given other
  same_checked i =
      training_checked
      (record {
        model = given.model;
        corpus = given.corpus;
        lent = record { weights = s.weights i; beside = s.beside i; truly = s.truly i; predicted = s.predicted i; order = s.order i };
      })
      (own_of method)

  same_answered : answer_to method given before ≡ answer_to method given other
  unfolding answer_to
  same_answered = ap (λ (checked : Checked). or_refused checked (said (trained_of method given).answer)) same_checked

pub same_answer : SameAnswer
same_answer method given before other s a b p q =
    record {
      answers = told a.answer b.answer (p.answers ∙ same_answered method given before other s ∙ sym q.answers);
      fronts = λ h.
          let x = fronts method given before a p h in
          let y = fronts method given other b q (sym (same_checked method given before other s) ∙ h) in
          record {
            weights = x.weights ∙ sym y.weights;
            beside = x.beside ∙ sym y.beside;
            truly = x.truly ∙ sym y.truly;
            predicted = x.predicted ∙ sym y.predicted;
            order = x.order ∙ sym y.order;
          };
    }
