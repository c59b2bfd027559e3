-- `next_by_previous` meets its contract. The loop's invariant: of the labels of the word before that are passed, the row has the best candidates, and the marks say whence. Assumes nothing.
use mathlib.Core.Path.{refl, sym}
use Prim.Native.Nat.{◌+◌, ◌*◌, ◌≤◌}
use native.Mathlib.Nat.{le-mul_of_pos_right, one-mul}
use native.Mathlib.Omega.{arith}
use borrow.Author.Rules.{rules}
use lib.ListN.{get_or-replicate}
use Rattle.refusals.specs.Bounds.{the_labels, most}
use Rattle.viterbi_steps.proofs.Choices.{square_small, row_after}
use Rattle.viterbi_steps.proofs.Laws.{row_inside, tried_first, tried_wide, tried_more, tried_all, tried_after, marks_within}
use Rattle.viterbi_steps.proofs.next_by_previous.Goals.{In-loop-previous}
use Rattle.viterbi_steps.proofs.next_by_previous.Goals as goal

-- the transitions of a label of the word before
inside : (c : In-loop-previous) → let n = c.args.n in c.loop-previous.base + n ≤ n * n
inside c = omega (arith, c.loop-previous.invariant.0, row_inside c.loop-previous.previous c.args.n c.loop-previous-test.true)

pub seed_row-requires : goal.seed_row-requires
seed_row-requires c =
    let room : c.args.n ≤ c.args.n * c.args.n = le-mul_of_pos_right c.args.n c.requires.some in
    search rules

pub loop-previous-init : goal.loop-previous-init
loop-previous-init c =
    (sym (one-mul _), tried_first c.args.next.now c.seed_row.ensures refl (λ label h. get_or-replicate (most the_labels) label 0 0 (omega (arith, c.requires.few))))

pub fold_previous-requires : goal.fold_previous-requires
fold_previous-requires c =
    (c.requires.few, omega (arith, inside (goal.at.fold_previous-requires c).In-loop-previous, c.requires.long_transitions), c.requires.long_states)

pub overflow_add-base : goal.overflow_add-base
overflow_add-base c =
    omega (arith, inside (goal.at.overflow_add-base c).In-loop-previous, square_small c.args.n c.requires.few)

pub loop-previous-preserved : goal.loop-previous-preserved
loop-previous-preserved c =
    let a = c.args in
    let wide = tried_wide a.n _ a.next.now c.seed_row.ensures c.requires.wide in
    let folded = c.fold_previous.ensures in (
      rw row_after (omega (arith, c.loop-previous.invariant.0)),
      tried_more c.loop-previous.auto.previous c.requires.few wide c.loop-previous.invariant.0 c.loop-previous.invariant.1 folded.next_after folded.from_after,
    )

pub keep_steps-requires : goal.keep_steps-requires
keep_steps-requires c =
    let a = c.args in
    let tried = tried_all (c.loop-previous.auto.previous-end c.requires.some) c.loop-previous-test.false c.loop-previous.invariant.1 in
    (c.requires.few, c.requires.long_steps, λ label h. omega (arith, marks_within a.word c.requires.some tried label h, c.requires.few))

pub returns : goal.returns
returns c =
    let a = c.args in
    let tried = tried_all (c.loop-previous.auto.previous-end c.requires.some) c.loop-previous-test.false c.loop-previous.invariant.1 in
    tried_after a.word c.requires.some tried c.requires.holds a.next.now _ c.seed_row.ensures a.steps.now c.keep_steps.ensures
