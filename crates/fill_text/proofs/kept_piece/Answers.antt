-- `fill_text::kept_piece` meets its contract. Assumes nothing.
use Rattle.fill_text.proofs.KeptOn.{kept_blank, kept_label, kept_attribute}
use mathlib.Core.Logic.{inl, inr}
use Rattle.fill_text.proofs.kept_piece.Goals as goal

pub put_attribute-requires : goal.put_attribute-requires
put_attribute-requires c =
    c.requires.may c.in-Attribute.is

pub returns-in-Blank : goal.returns-in-Blank
returns-in-Blank c =
    elim c.in-Blank.is [ inl e ↦ kept_blank e | inr e ↦ kept_label e ]

pub returns-in-Attribute : goal.returns-in-Attribute
returns-in-Attribute c =
    kept_attribute c.in-Attribute.is (c.requires.may c.in-Attribute.is) c.put_attribute.ensures
