-- `begin_and_end::begin` meets its contract. Assumes nothing.
use mathlib.Core.Path.{ap, ◌∙◌}
use borrow.Author.Rules.{rules}
use lib.ListN.{replicate}
use lib.Ieee.{Float, of_bits}
use Rattle.fronts.proofs.Filled.{all_of}
use Rattle.begin_and_end.proofs.begin.Goals as goal

pub returns : goal.returns
unfolding of_bits
returns c =
    record {
      order_is = c.count_up.ensures ∙ all_of _ _ _ c.requires.1;
      weights_are = c.fill.ensures ∙ all_of _ _ _ c.requires.2;
      beside_is = c.fill-2.ensures ∙ all_of _ _ _ c.requires.3 ∙ ap (λ (x : Float). replicate c.args.features x) c.first_beside.ensures;
    }
