-- `text_check::survey_alone` meets its contract. Assumes nothing.
use Rattle.text_check.proofs.Tells.{new_slots}
use Rattle.text_check.proofs.survey_alone.Goals as goal

pub survey_with-requires : goal.survey_with-requires
survey_with-requires c =
    record { well_formed = c.requires.well_formed; text_len_bound = (c.requires.text_len_bound, new_slots.0, new_slots.1) }
