-- `next_by_label` meets its contract. The loop's invariant: the labels passed have their best score and their step back. Assumes nothing.
use Prim.Native.Nat.{◌+◌, ◌*◌}
use native.Mathlib.Omega.{arith}
use Rattle.viterbi_steps.proofs.Written.{written_none, written_more, front_more, written_end}
use Rattle.viterbi_steps.proofs.Laws.{choice_within, choice_back, choice_best}
use Rattle.viterbi_steps.proofs.next_by_label.Goals as goal

pub loop-label-init : goal.loop-label-init
loop-label-init c = (written_none _ _ _, written_none _ _ _)

pub overflow_cast-steps : goal.overflow_cast-steps
overflow_cast-steps c =
    omega (arith, choice_within _ _ _ c.requires.some c.best_step-choice.ensures, c.requires.few)

pub loop-label-preserved : goal.loop-label-preserved
loop-label-preserved c =
    let a = c.args in
    let made = c.best_step-choice.ensures in (
      front_more _ _ c.loop-label.label c.loop-label.next _ c.loop-label.invariant.0
          (choice_best a.n a.word a.transitions.now a.states.now a.row.now c.requires.some c.requires.holds c.loop-label.label _ made),
      written_more ((a.word + 1) * a.n) _ _ c.loop-label.label c.loop-label.steps _ c.loop-label.invariant.1
          (choice_back a.n a.word a.transitions.now a.states.now a.row.now c.requires.some c.requires.holds c.loop-label.label _ made),
    )

pub returns : goal.returns
returns c =
    record {
      scores = written_end 0 _ _ _ _ _ c.loop-label.auto.label-end c.loop-label-test.false c.loop-label.invariant.0;
      leads = written_end _ _ _ _ _ _ c.loop-label.auto.label-end c.loop-label-test.false c.loop-label.invariant.1;
    }
