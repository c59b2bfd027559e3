-- `answer_file::write_line` meets its contract. Assumes nothing.
use borrow.Author.Rules.{rules}
use Rattle.answer_file.proofs.Streams.{write_more, appends_then}
use Rattle.answer_file.proofs.write_line.Goals as goal

pub loop-done-preserved : goal.loop-done-preserved
loop-done-preserved g c =
    (search rules, rw (write_more c.loop-done.done c.in_ok-more.more c.args.line.now) (appends_then _ _ _ _ _ c.loop-done.invariant.1 c.in_ok-more.ensures.bytes))
