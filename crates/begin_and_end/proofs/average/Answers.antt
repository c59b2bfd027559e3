-- `begin_and_end::average` meets its contract. Assumes nothing.
use mathlib.Core.Path.{◌≡◌, sym, ap, ◌∙◌}
use mathlib.Core.Bool.{Bool, cond}
use borrow.Author.Rules.{rules}
use mathlib.Core.List.{List}
use lib.Ieee.{Float}
use Rattle.lines.specs.Passes.{through}
use Rattle.training.specs.Rules.{averaged_at, averaged_by}
use Rattle.parameters.specs.Trainers.{rule_of}
use Rattle.begin_and_end.proofs.average.Goals.{After-is_averaging, Start}
use Rattle.begin_and_end.proofs.average.Goals as goal

-- averaged or not
abbrev choice : Start → Bool → List Float
choice c b =
    let a = c.args in
    cond b (through (averaged_at a.counter a.beside.now) 0 a.features a.weights.now) a.weights.now

picked : (c : After-is_averaging) → let g = c.args in averaged_by (rule_of g.trainer) g.features g.counter (record { weights = g.weights.now; beside = g.beside.now }) ≡ cond c.is_averaging.result (through (averaged_at g.counter g.beside.now) 0 g.features g.weights.now) g.weights.now
picked c = c.is_averaging.ensures _ _ _

pub returns-then-is_averaging : goal.returns-then-is_averaging
returns-then-is_averaging c =
    let made = c.average.ensures in
    record { weights = made.weights ∙ sym (picked (goal.at.returns-then-is_averaging c).After-is_averaging ∙ ap (choice (goal.at.returns-then-is_averaging c).Start) c.if-is_averaging.true); finite = made.finite }

pub returns : goal.returns
returns c =
    record { weights = sym (picked (goal.at.returns c).After-is_averaging ∙ ap (choice (goal.at.returns c).Start) c.if-is_averaging.false); finite = c.all_finite.ensures }
