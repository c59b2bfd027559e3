-- The ways through a visit: how its code's tests pick a case of the definition. Assumes nothing.
use Rattle.std.specs.Prelude.{Some, None}
use mathlib.Core.Path.{◌≡◌, sym, ap, ◌∙◌, subst}
use mathlib.Core.Bool.{Bool, true, false}
use mathlib.Core.List.{List, [], ◌++◌}
use mathlib.Core.Logic.{⊎_elim}
use Prim.Native.Nat.{ℕ, ◌+◌, ◌-◌, ◌≤◌, ◌<◌}
use native.Mathlib.Omega.{arith}
use borrow.Author.Tests.{eq-eqb, ne_eqb, eqb-true, eqb-false}
use lib.Dec.{eqb}
use lib.ListN.{length, get_or, take, drop, length-drop}
use lib.Seq.{length-take-le, take_at, get_or-take, get_or-drop}
use lib.Ieee.{Float, nan}
use lib.Ieee.Scale.{finite}
use Rattle.lines.specs.Tables.{Model}
use Rattle.lines.specs.Scored.{states_of, transitions_of}
use Rattle.lines.specs.Counted.{counts_of}
use Rattle.best_path.specs.Scores.{tabled}
use Rattle.best_path.specs.Decoded.{decoded_path}
use Rattle.best_path.specs.PathScore.{path_score}
use Rattle.training.specs.declared.Progress.{Progress}
use Rattle.lines.specs.Data.{Data, first_word, words_of, reference_of}
use Rattle.binary64.specs.Numbers.{whole}
use Rattle.training.specs.Wrong.{wrong_of}
use Rattle.training.specs.Rules.{Rule, Learned, Mistake}
use Rattle.training.specs.Visits.{TrainingState, refused_as, unchanged, corrected, compared, visited}
use Rattle.judging.specs.declared.Prediction.{Prediction}
use Rattle.training_check.specs.Sound.{SoundData}
use Rattle.prediction.specs.Tables.{SoundInstance}
use Rattle.judging.specs.Judged.{Judged}
use Rattle.updates.specs.Looked.{looked}
use Rattle.updates.proofs.Looked.{never, same_step, ended, differs}
use Rattle.updates.specs.Updating.{Agreed, VisitCounted, settled}
use Rattle.updates.proofs.Laws.{exactly, refused, refused_counted, unchanged_counted}
use Rattle.visits.specs.Visitable.{mistake_of}

-- a visit that ends before it learns is counted once at most
pub ended_counted : (s r : Progress) (scored agree : Bool) → ((l : Learned) → looked scored agree (record { progress = s; learned = l }) ≡ Some r) → s.updates ≤ s.visits → VisitCounted s r
unfolding looked
ended_counted s r false agree e h = refused_counted 8 s r (λ l. same_step (e l)) h
ended_counted s r true true e h = unchanged_counted s r (λ l. same_step (e l)) h
ended_counted s r true false e h = absurd (never (sym (e (record { weights = []; beside = [] }))))

-- a mistake's counts are those of two lists that are equal to its own
pub settled_as : (rule : Rule) (features : ℕ) (k : Mistake) (s : TrainingState) {truly predicted : List Float} {made : TrainingState} → k.truly ≡ truly → k.predicted ≡ predicted → Agreed made (settled rule features k s) →
    let counted : Mistake = record { words = k.words; wrong = k.wrong; truly = truly; predicted = predicted; true_score = k.true_score; predicted_score = k.predicted_score; weight = k.weight; counter = k.counter } in
    Agreed made (settled rule features counted s)
settled_as rule features k s e f a = rw (e, f) at a

-- ---- one instance, whose words go from first up to end
module _ (d : Data) (i first end : ℕ) (f : first ≡ get_or d.starts i 0) (g : end ≡ get_or d.starts (i + 1) 0) where
  module _ {labels : ℕ} (v : SoundData labels d) (h : i < d.instances) where
    pub some_words : first < end
    some_words = omega (arith, (v.sized i h).low, f, g)

    pub few_words : end - first ≤ 128
    few_words = omega (arith, (v.sized i h).high, f, g)

    pub all_words : end ≤ d.count
    all_words = omega (arith, v.within i h, (v.sized i h).low, f, g)

    pub line_sound : SoundInstance labels d.words first (end - first) (take (end - first) (drop first d.references))
    line_sound =
        let some = some_words in
        let within = all_words in
        let few = few_words in
        let w = v.worded in
        let to : first + (end - first) ≡ end = omega arith in
        record {
          sized = record { low = omega arith; high = few };
          worded = record {
            starting = omega (arith, w.starting);
            rising = λ k l. w.rising k (omega arith);
            within = λ k l. w.within k (omega arith);
            valued = λ k l. w.valued k (omega arith);
          };
          referenced = length-take-le _ _ (simp length-drop (omega (arith, v.referenced)));
          below = λ k l. rw (get_or-take (end - first) (drop first d.references) k 0 l, get_or-drop) (v.below (first + k) (omega arith));
        }

  module _ (rule : Rule) (m : Model) (s : TrainingState) {after : List ℕ} {p : Prediction} (j : Judged m.labels (end - first) (transitions_of m s.learned.weights) (states_of m s.learned.weights d.words first (end - first)) (take (end - first) (drop first d.references)) after p) where
    judged : Judged m.labels (words_of d i) (transitions_of m s.learned.weights) (states_of m s.learned.weights d.words (first_word d i) (words_of d i)) (reference_of d i) after p
    judged = rw (f, g) at j

    -- 8 for the scores
    unscored : p.finite ≡ false → {r : Progress} {l : Learned} → r ≡ (refused_as 8 s).progress → Agreed (record { progress = r; learned = l }) (visited rule m d i s)
    unfolding visited
    unscored e q = refused 8 s (rw (sym judged.finite ∙ e)) q

    -- the labels agree
    same : p.finite ≡ true → p.wrong ≡ 0 → {r : Progress} → r ≡ (unchanged s).progress → Agreed (record { progress = r; learned = s.learned }) (visited rule m d i s)
    unfolding visited compared unchanged
    same t z q = exactly (rw (sym judged.finite ∙ t, eq-eqb _ _ (sym (judged.wrong t) ∙ z), q))

    -- they differ
    abbrev pub seen : Mistake
    seen = mistake_of m d.words first (end - first) (take (end - first) (drop first d.references)) after p (get_or d.weights i nan) s.progress.visits

    abbrev meant : Mistake
    meant =
        let scores = tabled m.labels (transitions_of m s.learned.weights) (states_of m s.learned.weights d.words (first_word d i) (words_of d i)) in
        let path = decoded_path scores (words_of d i) in
        record {
          words = words_of d i;
          wrong = wrong_of path (reference_of d i) (words_of d i);
          truly = counts_of m d.words (first_word d i) (words_of d i) (reference_of d i);
          predicted = counts_of m d.words (first_word d i) (words_of d i) path;
          true_score = path_score scores (reference_of d i) (words_of d i);
          predicted_score = path_score scores path (words_of d i);
          weight = get_or d.weights i nan;
          counter = whole (s.progress.visits + 1);
        }

    seen_meant : p.finite ≡ true → (p.wrong ≡ 0 → ⊥) → seen ≡ meant
    seen_meant t h = rw (f, g, judged.wrong t, judged.wanted t h, judged.reached t h, judged.path t)

    visited_settled : p.finite ≡ true → (p.wrong ≡ 0 → ⊥) → visited rule m d i s ≡ settled rule m.features.count meant s
    unfolding visited compared corrected settled
    visited_settled t h = rw (sym judged.finite ∙ t, ne_eqb _ _ (λ z. h (judged.wrong t ∙ z)))

    other : p.finite ≡ true → (p.wrong ≡ 0 → ⊥) → {made : TrainingState} → Agreed made (settled rule m.features.count seen s) → Agreed made (visited rule m d i s)
    other t h {made} a = subst (λ (w : TrainingState). Agreed made w) (ap (λ (k : Mistake). settled rule m.features.count k s) (seen_meant t h) ∙ sym (visited_settled t h)) a

    -- what the look before learning found: the visit ends there
    pub ended_there : {r : Progress} → looked p.finite (eqb p.wrong 0) s ≡ Some r → Agreed (record { progress = r; learned = s.learned }) (visited rule m d i s)
    ended_there e = ⊎_elim (λ w. unscored w.0 w.1) (λ w. same w.0 (eqb-true _ _ w.1) w.2) (ended s p.finite (eqb p.wrong 0) e)

    -- or labels differ, and the path stands in the front of an array
    pub other_front : {made : TrainingState} → looked p.finite (eqb p.wrong 0) s ≡ None → length after ≡ end - first → (rest : List ℕ) →
        (let k = mistake_of m d.words first (end - first) (take (end - first) (drop first d.references)) (take (end - first) (after ++ rest)) p (get_or d.weights i nan) s.progress.visits in
        Agreed made (settled rule m.features.count k s)) → Agreed made (visited rule m d i s)
    other_front e n rest a =
        let w = differs s p.finite (eqb p.wrong 0) e in
        other w.0 (eqb-false _ _ w.1) (rw (take_at after rest _ n) at a)
