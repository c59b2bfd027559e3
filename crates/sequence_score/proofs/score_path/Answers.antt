-- `sequence_score::score_path` meets its contract. The loop's invariant: the score is that of the words passed, and the label before is theirs. Assumes nothing.
use mathlib.Core.Path.{◌≡◌}
use Prim.Native.Nat.{◌+◌, ◌-◌}
use native.Mathlib.Omega.{arith}
use Rattle.best_path.specs.Scores.{tabled}
use Rattle.sequence_score.proofs.Laws.{none, one_word, one_more, state_within, transition_within}
use Rattle.sequence_score.proofs.score_path.Goals as goal

pub returns-then-count-eq0 : goal.returns-then-count-eq0
returns-then-count-eq0 c = none _ _ _ c.if-count-eq0.true

pub entry-first-requires : goal.entry-first-requires
entry-first-requires c =
    state_within c.requires _ _ (omega arith) (rw c.label-before.ensures (c.requires.below 0 (omega arith)))

pub loop-word-init : goal.loop-word-init
loop-word-init c = (c.label-before.ensures, rw (c.entry-first.ensures, c.label-before.ensures) (one_word _ _))

pub entry-state-requires : goal.entry-state-requires
entry-state-requires c =
    let m = c.requires in
    state_within m _ _ (omega arith) (rw c.label-next.ensures (m.below _ (omega arith)))

pub entry-transition-requires : goal.entry-transition-requires
entry-transition-requires c =
    let m = c.requires in
    transition_within m _ _ (rw c.loop-word.invariant.0 (m.below _ (omega arith))) (rw c.label-next.ensures (m.below _ (omega arith)))

pub loop-word-preserved : goal.loop-word-preserved
loop-word-preserved c =
    let a = c.args in
    let e : c.loop-word.word + 1 - 1 ≡ c.loop-word.word = omega arith in (
      rw e c.label-next.ensures,
      one_more (tabled a.labels a.transitions.now a.states.now) a.path.now c.loop-word.word c.loop-word.auto.word c.loop-word.invariant.0 c.label-next.ensures c.loop-word.invariant.1 c.entry-state.ensures c.entry-transition.ensures,
    )

pub returns : goal.returns
returns c =
    let e : c.loop-word.word ≡ c.args.count = omega arith in
    rw (← e) c.loop-word.invariant.1
