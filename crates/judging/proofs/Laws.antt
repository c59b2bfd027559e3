-- Laws of counting wrong labels, and what judging one instance relies on. Assumes nothing.
use Rattle.refusals.specs.declared.Refusal.{Refusal}
use Rattle.viterbi_end.specs.declared.Found.{Found}
use Rattle.std.specs.Prelude.{Ok, Err, Result}
use mathlib.Core.Path.{◌≡◌, refl, sym, ap, ◌∙◌}
use mathlib.Core.Bool.{Bool, true, false, cond, ◌&&◌, false≢true}
use mathlib.Core.List.{List}
use Prim.Native.Nat.{ℕ, ◌+◌, ◌≤◌}
use native.Mathlib.Omega.{arith}
use borrow.Author.Tests.{eq-eqb, ne_eqb}
use lib.Dec.{eqb}
use lib.ListN.{get_or, length}
use lib.Ieee.{Float}
use Rattle.refusals.proofs.Laws.{never}
use Rattle.refusals.proofs.Said.{refused_said, accepted_said}
use Rattle.lines.specs.Passes.{through}
use Rattle.lines.proofs.Laws.{through_more}
use Rattle.best_path.specs.Scores.{tabled}
use Rattle.best_path.specs.Decoded.{decoded_path}
use Rattle.best_path.specs.PathScore.{path_score}
use Rattle.best_path.proofs.Laws.{decoded_allowed}
use Rattle.sequence_score.specs.Sound.{Met}
use Rattle.finished.specs.Rows.{scores_finished}
use Rattle.finished.proofs.Meant.{tests_accept}
use Rattle.fronts.proofs.Filled.{all_of}
use Rattle.training.specs.Wrong.{wrong_at, wrong_of}
use Rattle.judging.specs.Judged.{is_decoded_of, Judgeable, Judged, finite_scores}

module _ (p q : List ℕ) where
  pub wrong_none : 0 ≡ wrong_of p q 0
  unfolding wrong_of through
  wrong_none = refl

  wrong_more : (word : ℕ) → wrong_of p q (word + 1) ≡ cond (eqb (get_or p word 0) (get_or q word 0)) (wrong_of p q word) (wrong_of p q word + 1)
  unfolding wrong_of wrong_at
  wrong_more word = through_more (wrong_at p q) word 0

  pub wrong_same : (word : ℕ) {n : ℕ} → n ≡ wrong_of p q word → get_or p word 0 ≡ get_or q word 0 → n ≡ wrong_of p q (word + 1)
  wrong_same word e h = e ∙ sym (wrong_more word ∙ rw (eq-eqb (get_or p word 0) (get_or q word 0) h))

  pub wrong_other : (word : ℕ) {n : ℕ} → n ≡ wrong_of p q word → (get_or p word 0 ≡ get_or q word 0 → ⊥) → n + 1 ≡ wrong_of p q (word + 1)
  wrong_other word e h = ap (λ (k : ℕ). k + 1) e ∙ sym (wrong_more word ∙ rw (ne_eqb (get_or p word 0) (get_or q word 0) h))

-- two tests that hold together
pub both : (p q : Bool) → p && q ≡ true → (p ≡ true) × (q ≡ true)
both true q e = (refl, e)
both false q e = absurd (false≢true e)

unless : (b : Bool) → (b ≡ true → ⊥) → false ≡ b
unless false h = refl
unless true h = absurd (h refl)

module _ {labels words : ℕ} {references : List ℕ} {transitions states : List Float} {path : List ℕ} where
  -- what 8 says of the scores is what the finite tests say
  pub decoded_finite : (answer : Result Found Refusal) → Judgeable labels words references transitions states path answer → is_decoded_of answer ≡ finite_scores labels words transitions states
  decoded_finite (Ok found) s = sym ((tests_accept labels words states transitions).0 (accepted_said _ _ _ (sym s.labelled.answers)))
  decoded_finite (Err why) s =
      unless _ (λ t. never ((tests_accept labels words states transitions).1 t) ((refused_said _ _ why).0 (sym s.labelled.answers)))

  -- the path is the decoded one
  pub path_is : (answer : Result Found Refusal) → is_decoded_of answer ≡ true → Judgeable labels words references transitions states path answer → path ≡ decoded_path (tabled labels transitions states) words
  path_is (Err why) t s = absurd (false≢true t)
  path_is (Ok found) t s =
      let e : scores_finished labels words states transitions ≡ Ok tt = accepted_said _ _ _ (sym s.labelled.answers) in
      rw e at s.labelled.path ∙ all_of _ _ _ s.long_before

module _ {labels words : ℕ} {references : List ℕ} {transitions states : List Float} {path : List ℕ} {answer : Result Found Refusal} (s : Judgeable labels words references transitions states path answer) where
  -- the reference labels meet entries of the tables, and so do those of the predicted path
  pub true_met : Met labels transitions states references words
  true_met = record {
    long_path = omega (arith, s);
    long_states = omega (arith, s);
    long_transitions = omega (arith, s);
    below = s.below;
  }

  pub predicted_met : path ≡ decoded_path (tabled labels transitions states) words → Met labels transitions states path words
  predicted_met e =
      let a = decoded_allowed (tabled labels transitions states) s.labels_in.low words s.words_in_lem.low in
      rw e (record {
        long_path = omega (arith, a.long);
        long_states = omega (arith, s);
        long_transitions = omega (arith, s);
        below = a.labels;
      })

  pub path_long : path ≡ decoded_path (tabled labels transitions states) words → words ≤ length path
  path_long e = (predicted_met e).long_path

-- 8 for the scores: there is nothing else to know
pub unscored : {labels words : ℕ} {transitions states : List Float} {references after : List ℕ} (x y : Float) → finite_scores labels words transitions states ≡ false → Judged labels words transitions states references after (record { finite = false; wrong = 0; reached = x; wanted = y })
unscored x y e = record {
  finite = sym e;
  path = λ t. absurd (false≢true t);
  wrong = λ t. absurd (false≢true t);
  few = omega arith;
  reached = λ t. absurd (false≢true t);
  wanted = λ t. absurd (false≢true t);
}

module _ {labels words : ℕ} {transitions states : List Float} {references after : List ℕ} where
  -- the labels agree: the path scores are not looked at
  pub agreed : (x y : Float) {n : ℕ} → finite_scores labels words transitions states ≡ true → after ≡ decoded_path (tabled labels transitions states) words → n ≡ wrong_of after references words → n ≡ 0 → Judged labels words transitions states references after (record { finite = true; wrong = 0; reached = x; wanted = y })
  agreed x y f p w z = record {
    finite = sym f;
    path = λ _. p;
    wrong = λ _. rw (← p) (sym z ∙ w);
    few = omega arith;
    reached = λ _ other. absurd (other refl);
    wanted = λ _ other. absurd (other refl);
  }

  -- they differ
  pub differed : {x y : Float} {n : ℕ} → finite_scores labels words transitions states ≡ true → after ≡ decoded_path (tabled labels transitions states) words → n ≡ wrong_of after references words → n ≤ 128 → x ≡ path_score (tabled labels transitions states) after words → y ≡ path_score (tabled labels transitions states) references words → Judged labels words transitions states references after (record { finite = true; wrong = n; reached = x; wanted = y })
  differed f p w h r q = record {
    finite = sym f;
    path = λ _. p;
    wrong = λ _. rw (← p) w;
    few = h;
    reached = λ _ _. rw (← p) r;
    wanted = λ _ _. q;
  }
