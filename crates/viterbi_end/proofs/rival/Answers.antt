-- `rival` meets its contract. The loop's invariant: the score is the largest of the other labels passed. Assumes nothing.
use mathlib.Core.Path.{◌≡◌, ◌∙◌}
use Prim.Native.Nat.{ℕ, ◌-◌, ◌≤◌, ◌<◌, zero-le}
use native.Mathlib.Nat.{lt_of_lt_of_le}
use native.Mathlib.Omega.{arith}
use lib.Ieee.{Float}
use Rattle.refusals.specs.Bounds.{the_labels, most}
use Rattle.best_path.specs.Lead.{other}
use Rattle.best_path.proofs.Laws.{largest_first, other_within}
use Rattle.viterbi_steps.proofs.Choices.{score_more}
use Rattle.viterbi_end.specs.Rival.{score_at}
use Rattle.viterbi_end.proofs.rival.Goals.{After-other_label-first, After-other_label-label}
use Rattle.viterbi_end.proofs.rival.Goals as goal

-- the labels that are looked at are within the row
first_within : (c : After-other_label-first) → c.other_label-first.result < most the_labels
first_within c = rw c.other_label-first.ensures (lt_of_lt_of_le (other_within c.args.last c.args.n 0 c.requires.0 zero-le) c.requires.1)

next_within : (c : After-other_label-label) → c.other_label-label.result < most the_labels
next_within c =
    let h : c.loop-k.k ≤ c.args.n - 2 = omega (arith, c.loop-k-test.true) in
    rw c.other_label-label.ensures (lt_of_lt_of_le (other_within c.args.last c.args.n c.loop-k.k c.requires.0 h) c.requires.1)

pub offset_bounds-row-first : goal.offset_bounds-row-first
offset_bounds-row-first c = omega (arith, c.other_label-first.ensures, first_within (goal.at.offset_bounds-row-first c).After-other_label-first)

pub bounds-row-first : goal.bounds-row-first
bounds-row-first c = first_within (goal.at.bounds-row-first c).After-other_label-first

pub loop-k-init : goal.loop-k-init
loop-k-init c = rw c.other_label-first.ensures (simp largest_first)

pub offset_bounds-row-label : goal.offset_bounds-row-label
offset_bounds-row-label c = omega (arith, next_within (goal.at.offset_bounds-row-label c).After-other_label-label)

pub bounds-row-label : goal.bounds-row-label
bounds-row-label c = next_within (goal.at.bounds-row-label c).After-other_label-label

pub loop-k-preserved : goal.loop-k-preserved
loop-k-preserved c =
    let a = c.args in
    let g : ℕ → Float = λ j. score_at a.row.now (other a.last j) in
    c.better-score.ensures ∙ score_more g c.loop-k.k c.loop-k.auto.k _ _ 0 c.loop-k.invariant (rw c.other_label-label.ensures)

pub returns : goal.returns
returns c =
    let e : c.loop-k.k - 1 ≡ c.args.n - 2 = omega (arith, c.loop-k.auto.k-end, c.loop-k-test.false) in
    rw e at c.loop-k.invariant
