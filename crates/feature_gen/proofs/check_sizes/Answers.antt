-- `feature_gen::check_sizes` meets its contract. Assumes nothing.
use mathlib.Core.Path.{◌∙◌}
use Rattle.refusals.specs.Refusals.{or_next_of}
use Rattle.feature_gen.proofs.Laws.{sizes_parts}
use Rattle.feature_gen.proofs.check_sizes.Goals as goal

pub returns : goal.returns
unfolding or_next_of
returns c =
    c.refuse_if.ensures ∙ rw (c.lacks_lists-lists.ensures, c.lacks_features-features.ensures, c.exceeds-outside.ensures) (sizes_parts _)
