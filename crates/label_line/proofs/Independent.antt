-- Inputs that agree where scoring looks get the same path, sum and lead. Assumes nothing.
use Rattle.std.specs.Prelude.{Ok}
use mathlib.Core.Path.{◌≡◌, sym, ap₂, ◌∙◌}
use mathlib.Core.List.{List}
use Prim.Native.Nat.{ℕ}
use lib.ListN.{length, take, drop}
use lib.Seq.{take_at}
use Rattle.refusals.specs.Refusals.{or_next_of}
use Rattle.refusals.proofs.Laws.{both}
use Rattle.refusals.proofs.Said.{accepted_said}
use Rattle.best_path.specs.Decoded.{decoded_path}
use Rattle.best_path.proofs.Laws.{decoded_length}
use Rattle.viterbi.specs.Promise.{decoded, said}
use Rattle.same_scores.proofs.Same.{only_named_matters}
use Rattle.compute_scores.specs.Promise.{Given, scores_finished_of}
use Rattle.compute_scores.specs.Independent.{scoring_input_of}
use Rattle.label_line.specs.Promise.{Outcome, scores_of_line, checked_of, IsLabelled, decoded_of, answer_to, labels_after, Promised}
use Rattle.label_line.specs.Independent.{SameLabels}
use Rattle.label_line.proofs.Meant.{checks_mean}

-- a line that is labelled has the definition's path, sum and lead
module _ (given : Given) (before : List ℕ) (outcome : Outcome) (kept : Promised given before outcome) (labelled : IsLabelled outcome) where
  all : or_next_of (checked_of given before) (scores_finished_of given) ≡ Ok tt
  unfolding answer_to
  all = accepted_said _ (record { sum = labelled.0; lead = labelled.1 }) _ (sym kept.answers ∙ labelled.2)

  accepted : (checked_of given before ≡ Ok tt) × (scores_finished_of given ≡ Ok tt)
  accepted = both (checked_of given before) (scores_finished_of given) all

  answer_is : said outcome.answer ≡ decoded_of given
  unfolding answer_to
  answer_is = rw all at kept.answers

  path_is : take given.words outcome.path ≡ decoded_path (scores_of_line given) given.words
  unfolding labels_after
  path_is =
      let low = ((checks_mean given (length before)).accepted.0 accepted.0).1.0.low in
      rw (kept.path, accepted.0, accepted.1) (take_at (decoded_path (scores_of_line given) given.words) (drop given.words before) given.words (decoded_length (scores_of_line given) given.words low))

pub same_labels : SameLabels
same_labels a b agree before other x y p q xs ys =
    let s = only_named_matters (scoring_input_of a) (scoring_input_of b) agree in
    record {
      answers = answer_is a before x p xs ∙ ap₂ decoded s.sum s.ahead ∙ sym (answer_is b other y q ys);
      path = path_is a before x p xs ∙ s.path ∙ sym (path_is b other y q ys);
    }
