-- `byte_buffers::put_byte` meets its contract. Assumes nothing.
use Rattle.byte_buffers.proofs.Laws.{stored_one}
use borrow.Author.Rules.{rules}
use Rattle.byte_buffers.proofs.put_byte.Goals as goal

pub returns : goal.returns
returns c = record { next = search rules; line = stored_one _ _ _ }
