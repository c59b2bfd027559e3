-- `answer_file::answer_front` meets its contract. Assumes nothing.
use Rattle.answer_file.proofs.EveryFile.{of_every}
use Rattle.answer_file.proofs.answer_front.Goals as goal

pub returns : goal.returns
returns c = of_every c.args.bytes.now c.args.n c.requires.longest_sheet_in_bounds c.print_sheet.ensures
