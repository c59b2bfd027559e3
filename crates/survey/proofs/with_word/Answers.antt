-- `survey::with_word` meets its contract. Assumes nothing.
use Rattle.survey.proofs.Figured.{word_more}
use Rattle.survey.proofs.with_word.Goals as goal

pub returns : goal.returns
returns c =
    word_more c.args.f _ _ c.begun-sequences.ensures c.first_long.ensures
