-- `label_line::label_within` meets its contract: the arrays have room for the line. Assumes nothing.
use Rattle.std.proofs.lemmas.List.{length-replicate}
use native.Mathlib.Omega.{arith}
use lib.Ieee.{Float}
use lib.Seq.{length-take-le}
use mathlib.Core.Path.{◌∙◌}
use Rattle.label_line.proofs.label_within.Goals as goal

pub label_in-requires-clause-transitions_len : goal.label_in-requires-clause-transitions_len
label_in-requires-clause-transitions_len g c =
    let room = c.requires.labels_bound in (
      length-take-le _ _ (omega (arith, length-replicate {A = Float}, c.entries-square.ensures, room.0)) ∙ c.entries-square.ensures,
      length-take-le _ _ (omega (arith, length-replicate {A = Float}, c.entries-rows.ensures, room.1)) ∙ c.entries-rows.ensures,
    )
