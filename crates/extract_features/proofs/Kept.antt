-- How counting the features of a line keeps its promise. Assumes nothing.
use Rattle.std.specs.Prelude.{Ok, Err}
use mathlib.Core.Path.{◌≡◌, ◌∙◌}
use mathlib.Core.List.{List, ◌++◌}
use lib.ListN.{drop}
use lib.Ieee.{Float}
use Rattle.refusals.specs.declared.Refusal.{Refusal}
use Rattle.refusals.specs.Refusals.{Checked, or_next_of}
use Rattle.lines.proofs.Fronts.{length_counts}
use Rattle.finished.specs.Rows.{finished_checked}
use Rattle.finished.specs.After.{cleared_where}
use Rattle.finished.proofs.Laws.{front_checked, contents_kept}
use Rattle.extract_features.specs.Promise.{Given, needed, counts_of_line, checked_of, counts_finished_of, answer_to, amounts_after, Promised}

-- a refusal beforehand leaves the buffer
pub refused_kept : (given : Given) (before : List Float) {answer : Checked} {amounts : List Float} (why : Refusal) →
    checked_of given before ≡ Err why →
    answer ≡ Err why →
    amounts ≡ before →
    Promised given before (record { answer = answer; amounts = amounts })
unfolding answer_to amounts_after or_next_of
refused_kept given before why h e p = record { answers = rw (h, e); amounts = rw h p }

-- the counts were made, and cleared where 8 is given
module _ (given : Given) (before : List Float) (accepted : checked_of given before ≡ Ok tt) where
  pub made_kept : {amounts after : List Float} {r : Checked} →
      amounts ≡ counts_of_line given ++ drop (needed given) before →
      r ≡ finished_checked amounts (needed given) →
      after ≡ cleared_where r (needed given) amounts →
      Promised given before (record { answer = r; amounts = after })
  unfolding answer_to amounts_after or_next_of
  made_kept {r = r} p f s =
      let long = length_counts given.model given.line 0 given.words given.path in
      let e : r ≡ counts_finished_of given = f ∙ rw p (front_checked (counts_of_line given) _ (needed given) long) in
      record {
        answers = rw (accepted, ← e);
        amounts = rw (accepted, ← e, contents_kept r (needed given) before (counts_of_line given) long p s);
      }
