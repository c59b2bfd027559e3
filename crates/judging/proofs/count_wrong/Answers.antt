use mathlib.Core.Path.{◌≡◌, ◌∙◌}
use native.Mathlib.Omega.{arith}
use Rattle.judging.proofs.Laws.{wrong_none, wrong_same, wrong_other}
use Rattle.judging.proofs.count_wrong.Goals.{then-path-word, else-path-word}
use Rattle.judging.proofs.count_wrong.Goals as goal

pub loop-word-init : goal.loop-word-init
loop-word-init c = (omega arith, wrong_none _ _)

pub loop-word-preserved : goal.loop-word-preserved
loop-word-preserved c =
    elim c.if-path-word.branch [
      | then-path-word w ↦ (omega (arith, w.wrong-is), w.wrong-is ∙ wrong_other _ _ c.loop-word.word c.loop-word.invariant.1 w.if-path-word.true)
      | else-path-word w ↦ (omega (arith, w.wrong-is), w.wrong-is ∙ wrong_same _ _ c.loop-word.word c.loop-word.invariant.1 w.if-path-word.false)
    ]

pub returns : goal.returns
returns c = (let e : c.loop-word.word ≡ c.args.words = omega arith in rw (← e) c.loop-word.invariant.1, omega arith)
