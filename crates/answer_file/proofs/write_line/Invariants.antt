-- `answer_file::write_line` meets its contract: what is done of the line is written. Assumes nothing.
use Rattle.std.proofs.Common.{length, ◌-◌, ◌≤◌, take}
use Rattle.std.specs.Io.KnownBytes.{Appends}
use Rattle.answer_file.proofs.write_line.Given as goal

abbrev pub invariant-loop-done : goal.invariant-loop-done
invariant-loop-done g l =
    (l.done ≤ length l.line) × Appends (g.W.Write.contents l.fn.out) (g.W.Write.contents l.out) (take l.done l.line)

abbrev pub decreases-loop-done : goal.decreases-loop-done
decreases-loop-done g l = length l.line - l.done
