-- `answer_file::read_bytes` meets its contract. Assumes nothing.
use borrow.Author.Rules.{rules}
use Rattle.answer_file.proofs.Streams.{read_more, consumes_then}
use Rattle.answer_file.proofs.read_bytes.Goals as goal

pub loop-done-preserved : goal.loop-done-preserved
loop-done-preserved g c =
    (search rules, rw (read_more c.loop-done.done _ c.in-Ok.more c.loop-done.bytes c.read.new.buf c.loop-done.invariant.0 c.in-Ok.ensures.bound.0) (consumes_then _ _ _ _ _ c.loop-done.invariant.1 c.in-Ok.ensures.bytes.0))
