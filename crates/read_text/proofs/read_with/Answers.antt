-- `read_text::read_with` meets its contract. Assumes nothing.
use native.Mathlib.Omega.{arith}
use Rattle.text_check.proofs.Tells.{new_labels, new_positions, arrays_ready}
use Rattle.read_text.proofs.read_with.Goals as goal

pub survey_text-survey-requires : goal.survey_text-survey-requires
survey_text-survey-requires c =
    record { well_formed = c.requires.0.formed; survey_asked = arrays_ready c.requires.0.small new_labels new_positions c.requires.1.long c.requires.1.free }

pub fill_checked-requires : goal.fill_checked-requires
fill_checked-requires c =
    record {
      readable = c.requires.0;
      labels_long = omega (arith, new_labels);
      slots_long = omega (arith, c.requires.1.long);
      positions_long = omega (arith, new_positions);
      surveys = c.survey_text-survey.ensures;
    }
