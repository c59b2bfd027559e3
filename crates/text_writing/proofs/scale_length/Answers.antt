-- `text_writing::scale_length` meets its contract. Assumes nothing.
use mathlib.Core.Path.{refl}
use Rattle.text_writing.proofs.Lengths.{no_scale_length, scale_length_of}
use Rattle.text_writing.proofs.scale_length.Goals as goal

pub returns-then-from-to-clause-value : goal.returns-then-from-to-clause-value
returns-then-from-to-clause-value c =
    no_scale_length c.requires refl refl c.if-from-to.true

pub returns-clause-value : goal.returns-clause-value
returns-clause-value c =
    scale_length_of c.requires refl refl c.if-from-to.false
