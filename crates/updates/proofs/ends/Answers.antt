-- `updates::ends` meets its contract. Assumes nothing.
use mathlib.Core.Path.{sym, ◌∙◌}
use native.Mathlib.Omega.{arith}
use borrow.Author.Rules.{rules}
use lib.Dec.{le→leb}
use lib.Ieee.{in_float}
use Rattle.updates.proofs.ends.Goals as goal

pub int_to_float-instances : goal.int_to_float-instances
unfolding in_float
int_to_float-instances c = le→leb c.args.instances 9007199254740992 (omega arith)

pub returns : goal.returns
returns c = rw (sym c.is_refused.ensures ∙ c.if-is_refused.false, c.is_low.ensures)
