-- `survey::with_piece` meets its contract. Assumes nothing.
use Rattle.survey.proofs.Pass.{step_blank, step_label, step_attribute}
use Rattle.survey.proofs.with_piece.Goals as goal

pub returns-in-Blank : goal.returns-in-Blank
returns-in-Blank c =
    λ before p k g. step_blank k g c.in-Blank.is c.with_blank.ensures

pub returns-in-Label : goal.returns-in-Label
returns-in-Label c =
    λ before p k g. step_label k g c.in-Label.is c.with_word.ensures (c.with_label.ensures _ _ k.labelled g.name)

pub returns-in-Attribute : goal.returns-in-Attribute
returns-in-Attribute c =
    λ before p k g. step_attribute k g c.in-Attribute.is c.scale_length.ensures c.with_attribute.ensures (c.with_name.ensures _ _ k.named g.name)
