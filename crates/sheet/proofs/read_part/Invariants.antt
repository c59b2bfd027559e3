-- `sheet::read_part` meets its contract. The loop's invariant: the table is filled as far as i. Assumes nothing.
use mathlib.Core.Path.{◌≡◌}
use lib.ListN.{length, drop}
use Rattle.sheet.specs.Fields.{numbers_in}
use Rattle.sheet.specs.Steps.{filled}
use Rattle.sheet.proofs.read_part.Given as goal

abbrev pub invariant-loop-i : goal.invariant-loop-i
invariant-loop-i l = (length l.table ≡ length l.initial.table) × (l.table ≡ filled (numbers_in l.n (drop l.at l.bytes)) l.i l.initial.table)
