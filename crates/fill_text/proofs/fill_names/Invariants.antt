-- `fill_text::fill_names` meets its contract. Assumes nothing.
use Rattle.fill_text.proofs.Naming.{NamesSoFar}
use Rattle.fill_text.proofs.fill_names.Given as goal

abbrev pub invariant-loop-i : goal.invariant-loop-i
invariant-loop-i l =
    NamesSoFar l.text l.positions l.count l.initial.starts l.initial.bytes l.starts l.bytes l.i l.at
