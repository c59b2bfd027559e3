-- `judging::judge` meets its contract. Assumes nothing.
use mathlib.Core.Path.{◌≡◌, sym, ◌∙◌}
use mathlib.Core.Bool.{true}
use native.Mathlib.Omega.{arith}
use Rattle.best_path.specs.Scores.{tabled}
use Rattle.best_path.specs.Decoded.{decoded_path}
use Rattle.judging.specs.Judged.{finite_scores}
use Rattle.judging.proofs.Laws.{decoded_finite, path_is, path_long, true_met, predicted_met, unscored, agreed, differed}
use Rattle.judging.proofs.judge.Goals.{After-is_decoded-finite, Else-not-finite}
use Rattle.judging.proofs.judge.Goals as goal

-- the flag tells whether the scores are finite
flag : (c : After-is_decoded-finite) → let s = c.args in c.is_decoded-finite.result ≡ finite_scores s.labels s.words s.transitions.now s.states.now
flag c = c.is_decoded-finite.ensures ∙ decoded_finite _ c.requires

-- no 8: the scores are finite, and the path is the decoded one
is_finite : (c : Else-not-finite) → let s = c.args in finite_scores s.labels s.words s.transitions.now s.states.now ≡ true
is_finite c = sym (c.is_decoded-finite.ensures ∙ decoded_finite _ c.requires) ∙ c.if-not-finite.false

path_so : (c : Else-not-finite) → let s = c.args in s.path.now ≡ decoded_path (tabled s.labels s.transitions.now s.states.now) s.words
path_so c = path_is _ (sym c.is_decoded-finite.ensures ∙ c.if-not-finite.false) c.requires

pub returns-then-not-finite : goal.returns-then-not-finite
returns-then-not-finite c =
    unscored _ _ (sym (flag (goal.at.returns-then-not-finite c).After-is_decoded-finite) ∙ c.if-not-finite.true)

pub count_wrong-wrong-requires : goal.count_wrong-wrong-requires
count_wrong-wrong-requires c =
    let s = c.requires in
    (s.words_in_lem.high, path_long s (path_so (goal.at.count_wrong-wrong-requires c).Else-not-finite), omega (arith, s))

pub returns-then-wrong-eq0 : goal.returns-then-wrong-eq0
returns-then-wrong-eq0 c =
    agreed _ _ (is_finite (goal.at.returns-then-wrong-eq0 c).Else-not-finite) (path_so (goal.at.returns-then-wrong-eq0 c).Else-not-finite) c.count_wrong-wrong.ensures.0 (omega arith)

pub score_path-reached-requires : goal.score_path-reached-requires
score_path-reached-requires c =
    predicted_met c.requires (path_so (goal.at.score_path-reached-requires c).Else-not-finite)

pub score_path-wanted-requires : goal.score_path-wanted-requires
score_path-wanted-requires c =
    true_met c.requires

pub returns : goal.returns
returns c =
    differed (is_finite (goal.at.returns c).Else-not-finite) (path_so (goal.at.returns c).Else-not-finite) c.count_wrong-wrong.ensures.0 (omega (arith, c.count_wrong-wrong.ensures.1, c.requires.words_in_lem.high)) c.score_path-reached.ensures c.score_path-wanted.ensures
