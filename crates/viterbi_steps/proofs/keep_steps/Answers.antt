-- `keep_steps` meets its contract. The loop's invariant: the labels passed have their mark in its place. Assumes nothing.
use mathlib.Core.Path.{refl}
use Rattle.viterbi_steps.proofs.Written.{written_none, written_more, written_end}
use Rattle.viterbi_steps.proofs.keep_steps.Goals as goal

pub loop-label-init : goal.loop-label-init
loop-label-init c = written_none _ _ _

pub overflow_cast-steps : goal.overflow_cast-steps
overflow_cast-steps c = record { fits = c.requires.2 _ c.loop-label-test.true }

pub loop-label-preserved : goal.loop-label-preserved
loop-label-preserved c =
    written_more c.args.at _ _ c.loop-label.label c.loop-label.steps _ c.loop-label.invariant refl

pub returns : goal.returns
returns c = written_end _ _ _ _ _ _ c.loop-label.auto.label-end c.loop-label-test.false c.loop-label.invariant
