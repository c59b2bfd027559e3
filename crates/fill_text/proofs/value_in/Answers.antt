-- `fill_text::value_in` meets its contract. Assumes nothing.
use mathlib.Core.Path.{ap, sym, ◌∙◌}
use native.Mathlib.Omega.{arith}
use Rattle.scales.specs.Value.{value_of}
use Rattle.scales.proofs.Meant.{no_scale_value}
use Rattle.pieces.proofs.Spans.{kept_scale, kept_lent, kept_none}
use Rattle.fill_text.proofs.value_in.Goals as goal

pub value_of-requires : goal.value_of-requires
value_of-requires c =
    kept_scale c.requires.1 c.if-split-to.true

pub returns-then-split-to : goal.returns-then-split-to
returns-then-split-to c =
    λ p g. c.value_of.ensures ∙ ap value_of (kept_lent g c.if-split-to.true)

pub returns : goal.returns
returns c = λ p g. no_scale_value ∙ ap value_of (sym (kept_none g (omega (arith, g.low, c.if-split-to.false))))
