-- `answer_file::answer_file` meets its contract. Assumes nothing.
use mathlib.Core.Path.{sym}
use lib.Seq.{length-take-le}
use Rattle.std.proofs.lemmas.Result.{err_from_is_err_and}
use Rattle.answer_file.proofs.EveryFile.{every_within}
use Rattle.answer_file.proofs.Streams.{line_of}
use Rattle.answer_file.proofs.answer_file.Goals as goal

pub slice_bounds-line-end : goal.slice_bounds-line-end
slice_bounds-line-end g c = every_within _ _ c.read_bytes-n.ensures.within c.answer_front-size.ensures

pub slice_bounds-write_line-end : goal.slice_bounds-write_line-end
slice_bounds-write_line-end g c = sym (length-take-le _ _ (every_within _ _ c.read_bytes-n.ensures.within c.answer_front-size.ensures))

pub returns-in_err-write_line-clause-err : goal.returns-in_err-write_line-clause-err
returns-in_err-write_line-clause-err g c =
    let p = err_from_is_err_and c.from_residual.result c.from_residual.ensures.1 in
    let n = c.read_bytes-n.ensures in
    let (k, front) = c.in_err-write_line.ensures.err in
    rw p.1 (c.read_bytes-n.result, k, _, line_of _ _ c.answer_front-size.ensures _ _ n.within n.front n.end, front)

pub returns-clause-line : goal.returns-clause-line
returns-clause-line g c =
    let n = c.read_bytes-n.ensures in
    (_, line_of _ _ c.answer_front-size.ensures _ _ n.within n.front n.end, c.in_ok-write_line.ensures.ok)
