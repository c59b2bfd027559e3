-- `begin_and_end::conclude` meets its contract: a visit that was refused, the averaged weights, or 9 for the averaging. Assumes nothing.
use mathlib.Core.Path.{◌∙◌}
use Prim.Native.Nat.{◌+◌}
use native.Mathlib.Omega.{arith}
use borrow.Author.Rules.{rules}
use lib.Dec.{le→leb}
use lib.Ieee.{in_float, of_bits}
use Rattle.fronts.proofs.Filled.{all_of}
use Rattle.begin_and_end.proofs.Laws.{not_refused, visit_refused, accepted, averaging_refused}
use Rattle.begin_and_end.proofs.conclude.Goals as goal

pub returns-in-Refused : goal.returns-in-Refused
unfolding of_bits
returns-in-Refused c =
    λ set m d r e f. visit_refused _ set m d e f c.in-Refused.is (c.fill.ensures ∙ all_of _ _ _ c.requires.0)

pub int_to_float-counter : goal.int_to_float-counter
unfolding in_float
int_to_float-counter c =
    le→leb (c.args.ran.progress.visits + 1) 9007199254740992 (omega (arith, c.requires.2))

pub returns-then-average : goal.returns-then-average
returns-then-average c =
    λ set m d r e f. accepted _ set m d e f (not_refused c.args.ran.progress.visit c.in_default.not-Refused) c.average.ensures c.if-average.true

pub returns : goal.returns
unfolding of_bits
returns c =
    λ set m d r e f.
    averaging_refused _ set m d e f (not_refused c.args.ran.progress.visit c.in_default.not-Refused) c.average.ensures c.if-average.false c.numbered.ensures (c.fill-2.ensures ∙ all_of _ _ _ (c.average.auto.weights ∙ c.requires.0))
