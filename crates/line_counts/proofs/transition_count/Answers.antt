-- `line_counts::transition_count` meets its contract. Assumes nothing.
use mathlib.Core.Path.{◌≡◌}
use mathlib.Core.Bool.{and-false}
use native.Mathlib.Omega.{arith}
use lib.ListN.{get_or}
use borrow.Author.Tests.{eq-eqb, ne_eqb}
use Rattle.lines.specs.Passes.{raised}
use Rattle.lines.specs.Counted.{transition_count_of}
use Rattle.lines.proofs.Literals.{literal_one}
use Rattle.line_counts.proofs.transition_count.Goals as goal

pub returns-then-kinds-i-eq1 : goal.returns-then-kinds-i-eq1
unfolding transition_count_of raised
returns-then-kinds-i-eq1 c =
    let h : get_or c.args.sources.now c.at-i.result 0 ≡ c.args.previous = omega (arith, c.if-source-previous.true) in
    rw (← c.at-i.ensures, eq-eqb _ _ c.if-kinds-i-eq1.true, eq-eqb _ _ h, eq-eqb _ _ c.if-destinations-i.true, literal_one)

pub returns-else-kinds-i-eq1 : goal.returns-else-kinds-i-eq1
unfolding transition_count_of
returns-else-kinds-i-eq1 c =
    rw (← c.at-i.ensures, ne_eqb _ _ c.if-kinds-i-eq1.false)

pub returns-else-source-previous : goal.returns-else-source-previous
unfolding transition_count_of
returns-else-source-previous c =
    let h : get_or c.args.sources.now c.at-i.result 0 ≡ c.args.previous → ⊥ = λ e. omega arith in
    rw (← c.at-i.ensures, ne_eqb _ _ h, and-false)

pub returns-else-destinations-i : goal.returns-else-destinations-i
unfolding transition_count_of
returns-else-destinations-i c =
    rw (← c.at-i.ensures, ne_eqb _ _ c.if-destinations-i.false, and-false, and-false)
