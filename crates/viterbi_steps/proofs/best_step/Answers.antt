-- `best_step` meets its contract. The loop's invariant: the score and its origin are those chosen of the candidates passed. Assumes nothing.
use mathlib.Core.Path.{sym, ap, ◌∙◌}
use Prim.Native.Nat.{◌*◌, ◌≤◌, ◌<◌}
use native.Mathlib.Nat.{le_antisymm, le-mul_of_pos_right, zero-mul, zero-add, one-mul}
use native.Mathlib.Omega.{arith}
use lib.Arith.{digits_lt}
use lib.ListN.{get_or}
use lib.Ieee.{nan, binary64, add}
use Rattle.best_path.proofs.Laws.{largest_first}
use Rattle.viterbi_steps.specs.Chosen.{candidate}
use Rattle.viterbi_steps.proofs.Choices.{square_small, row_after, score_more, from_more}
use Rattle.viterbi_steps.proofs.best_step.Goals.{In-loop-tried}
use Rattle.viterbi_steps.proofs.best_step.Goals as goal

-- the place of a transition
inside : (c : In-loop-tried) → let n = c.args.n in c.loop-tried.at < n * n
inside c =
    let within = digits_lt c.loop-tried-test.true c.requires.0 in
    omega (arith, c.loop-tried.invariant.0, within)

pub bounds-transitions-label : goal.bounds-transitions-label
bounds-transitions-label c =
    let n = c.args.n in
    let l : n ≤ n * n = le-mul_of_pos_right n (omega arith) in omega arith

pub loop-tried-init : goal.loop-tried-init
loop-tried-init c = (rw one-mul, simp (largest_first, zero-mul, zero-add), sym (largest_first _))

pub offset_bounds-transitions-at : goal.offset_bounds-transitions-at
offset_bounds-transitions-at c =
    omega (arith, inside (goal.at.offset_bounds-transitions-at c).In-loop-tried, square_small c.args.n (omega arith))

pub bounds-transitions-at : goal.bounds-transitions-at
bounds-transitions-at c = omega (arith, inside (goal.at.bounds-transitions-at c).In-loop-tried)

pub overflow_add-at-in-loop-tried : goal.overflow_add-at-in-loop-tried
overflow_add-at-in-loop-tried c =
    omega (arith, inside (goal.at.overflow_add-at-in-loop-tried c).In-loop-tried, square_small c.args.n (omega arith))

pub loop-tried-preserved : goal.loop-tried-preserved
loop-tried-preserved c =
    let a = c.args in
    let g = candidate a.n a.transitions.now a.row.now a.label a.state in
    let met = ap (λ at. add binary64 (add binary64 (get_or a.row.now c.loop-tried.tried nan) (get_or a.transitions.now at nan)) a.state) c.loop-tried.invariant.0 in (
      rw row_after (omega arith),
      c.better-score.ensures ∙ score_more g c.loop-tried.tried c.loop-tried.auto.tried _ _ c.loop-tried.previous c.loop-tried.invariant.1 met,
      c.whence-previous.ensures ∙ from_more g c.loop-tried.tried c.loop-tried.auto.tried _ _ _ c.loop-tried.invariant.1 met c.loop-tried.invariant.2,
    )

pub returns : goal.returns
returns c = let e = le_antisymm (c.loop-tried.auto.tried-end (omega arith)) c.loop-tried-test.false in rw (c.loop-tried.invariant.1, c.loop-tried.invariant.2, e)
