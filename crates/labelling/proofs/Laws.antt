-- How the scores of a line answer. Assumes nothing.
use Rattle.std.specs.Prelude.{Ok, Err, Result}
use mathlib.Core.Path.{◌≡◌, sym, ◌∙◌}
use mathlib.Core.Bool.{Bool, true}
use mathlib.Core.List.{List}
use Prim.Native.Nat.{ℕ, ◌*◌, ◌≤◌}
use native.Mathlib.Nat.{mul-le-mul}
use native.Mathlib.Omega.{arith}
use borrow.Author.Tests.{leb-true}
use lib.Dec.{leb}
use lib.ListN.{length}
use lib.Ieee.{Float}
use Rattle.refusals.specs.declared.Refusal.{Refusal}
use Rattle.refusals.specs.Refusals.{Checked}
use Rattle.score_tables.specs.Sound.{LabelsIn, WordsIn}
use Rattle.lines.specs.Tables.{Model, Words}
use Rattle.lines.specs.Scored.{states_of, transitions_of}
use Rattle.viterbi_end.specs.declared.Found.{Found}
use Rattle.viterbi.specs.Answered.{Ready, Answered}
use Rattle.finished.specs.Rows.{scores_finished}
use Rattle.finished.proofs.Meant.{both_true}
use Rattle.fronts.specs.Cleared.{cleared}
use Rattle.labelling.specs.Labelled.{Labelled, LabelledAt, LentTables, small}

module _ (labels words : ℕ) (transitions states : List Float) (before : List ℕ) {after : List ℕ} {r : Checked} (f : r ≡ scores_finished labels words states transitions) where
  -- 8 clears the path
  pub eight : (why : Refusal) → r ≡ Err why → after ≡ cleared 0 words before → Labelled labels words transitions states before (Err why) after
  eight why h c =
      let e : scores_finished labels words states transitions ≡ Err why = sym f ∙ h in
      record { answers = rw e; path = rw e c }

  pub path_found : (found : Found) → r ≡ Ok tt → Answered labels words transitions states before found after → Labelled labels words transitions states before (Ok found) after
  path_found found h a =
      let e : scores_finished labels words states transitions ≡ Ok tt = sym f ∙ h in
      record { answers = rw (e, a.sum, a.lead_is); path = rw e a.path }

-- the sizes of a line's scores
pub few_transitions : {labels : ℕ} → LabelsIn labels → labels * labels ≤ 1024
few_transitions l = mul-le-mul l.high l.high

pub few_states : {labels words : ℕ} → LabelsIn labels → WordsIn words → words * labels ≤ 4096
few_states l w = mul-le-mul w.high l.high

-- tables that are lent are ready to be decoded, whatever scores the states become
pub ready : {labels words : ℕ} {transitions states scored : List Float} {path : List ℕ} → LentTables labels words transitions states path → length scored ≡ length states → Ready labels words transitions scored path
ready l e = record {
  sized = record {
    labels_in = l.labels_in;
    words_in_lem = l.words_in_lem;
    room = record { long_transitions = l.long_transitions; long_states = omega (arith, l, e) };
    few_transitions = few_transitions l.labels_in;
    few_states = few_states l.labels_in l.words_in_lem;
  };
  long_path = l.long_path;
}

module _ (m : Model) (weights : List Float) (line : Words) (first : ℕ) where
  -- the table of the states, and what it gives
  pub labelled_at : {words : ℕ} {transitions states : List Float} {before after : List ℕ} {answer : Result Found Refusal} → states ≡ states_of m weights line first words → Labelled m.labels words transitions states before answer after → LabelledAt m weights line first words transitions before answer states after
  labelled_at e l = record { scored = e; labelled = rw e at l }

  -- as its tables stand afterwards
  pub labelled_in : {words : ℕ} {transitions states : List Float} {before after : List ℕ} {answer : Result Found Refusal} → LabelledAt m weights line first words transitions before answer states after → Labelled m.labels words transitions states before answer after
  labelled_in l = rw l.scored l.labelled

  -- by the model's transitions, where it is they that were lent
  pub labelled_by : {words : ℕ} {transitions states : List Float} {before after : List ℕ} {answer : Result Found Refusal} → transitions ≡ transitions_of m weights → LabelledAt m weights line first words transitions before answer states after → Labelled m.labels words (transitions_of m weights) (states_of m weights line first words) before answer after
  labelled_by e l = rw e at l.labelled

-- what a short line is found to be
pub small_is : (labels words : ℕ) {r : Bool} → r ≡ small labels words → r ≡ true → (labels * labels ≤ 256) × (words * labels ≤ 256)
small_is labels words e t =
    let b = both_true (leb (labels * labels) 256) (leb (words * labels) 256) (sym e ∙ t) in
    (leb-true _ _ b.0, leb-true _ _ b.1)
