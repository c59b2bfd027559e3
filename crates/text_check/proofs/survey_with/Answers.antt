-- `text_check::survey_with` meets its contract. Assumes nothing.
use native.Mathlib.Omega.{arith}
use Rattle.text_check.proofs.Tells.{text_surveyed, new_labels, new_positions, arrays_ready}
use Rattle.text_check.proofs.survey_with.Goals as goal

pub survey_text-requires : goal.survey_text-requires
survey_text-requires c =
    record { well_formed = c.requires.well_formed; survey_asked = arrays_ready c.requires.text_len_bound.0 new_labels new_positions c.requires.text_len_bound.1 c.requires.text_len_bound.2 }

pub returns : goal.returns
returns c =
    λ h. text_surveyed h c.requires.text_len_bound.0 (omega (arith, new_labels)) (omega (arith, new_positions)) (c.survey_text.ensures h)
