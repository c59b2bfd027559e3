-- `write_check::check_names` meets its contract, by the laws of a search. Assumes nothing.
use Prim.Native.Nat.{ℕ}
use Rattle.refusals.proofs.Laws.{Passed}
use Rattle.text_tables.specs.Written.{string_at}
use Rattle.text_writing.specs.Ready.{strings}
use Rattle.write_check.specs.Carry.{no_name}
use Rattle.write_check.proofs.check_names.Given as goal

abbrev pub invariant-loop-i : goal.invariant-loop-i
invariant-loop-i l = Passed 11 (λ (k : ℕ). no_name (string_at (strings l.starts l.bytes) k)) l.n l.i
