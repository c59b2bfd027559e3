-- `text_writing::name_length` meets its contract. Assumes nothing.
use mathlib.Core.Path.{refl, ap, ◌∙◌}
use mathlib.Core.List.{List}
use Prim.Native.Nat.{ℕ}
use lib.ListN.{length}
use Rattle.layout.specs.Layout.{escaped}
use Rattle.text_writing.proofs.Laws.{part_is}
use Rattle.text_writing.proofs.name_length.Goals as goal

pub returns-clause-value : goal.returns-clause-value
returns-clause-value c =
    c.escaped_length.ensures.value ∙ ap (λ (x : List ℕ). length (escaped x)) (part_is c.requires refl refl)
