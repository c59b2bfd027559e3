-- `begin_and_end::sweep` meets its contract. Assumes nothing.
use mathlib.Core.Path.{◌∙◌}
use borrow.Author.Rules.{rules}
use lib.Ieee.{of_bits}
use Rattle.fronts.proofs.Filled.{all_of}
use Rattle.begin_and_end.proofs.sweep.Goals as goal

pub shape_of-order : goal.shape_of-order
shape_of-order c =
    c.clear.auto.order

pub shape_of-beside : goal.shape_of-beside
shape_of-beside c =
    c.fill.auto.table

pub shape_of-truly : goal.shape_of-truly
shape_of-truly c =
    c.fill-2.auto.table

pub shape_of-predicted : goal.shape_of-predicted
shape_of-predicted c =
    c.fill-3.auto.table

pub returns : goal.returns
unfolding of_bits
returns c =
    record {
      order_is = c.clear.ensures ∙ all_of _ _ _ c.requires.0;
      beside_is = c.fill.ensures ∙ all_of _ _ _ c.requires.1;
      truly_is = c.fill-2.ensures ∙ all_of _ _ _ c.requires.2;
      predicted_is = c.fill-3.ensures ∙ all_of _ _ _ c.requires.3;
    }
