-- `look::through_name` meets its contract. Assumes nothing.
use mathlib.Core.Bool.{true, false}
use Rattle.look.proofs.Turns.{named, later, walked_on}
use Rattle.look.proofs.through_name.Goals as goal

pub plain-s-requires : goal.plain-s-requires
plain-s-requires c =
    later _ _ _ _ c.requires c.plain_run-i.ensures

pub returns-in-Inside : goal.returns-in-Inside
returns-in-Inside c = named _ false _ _ _ _ _ _ c.in-Inside.is (walked_on _ _ _ _ _ c.plain_run-i.ensures c.plain-s.ensures) c.in_mode.ensures

pub returns-in-Slashed : goal.returns-in-Slashed
returns-in-Slashed c = named _ true _ _ _ _ _ _ c.in-Slashed.is c.behind-s.ensures c.in_mode-in-Slashed.ensures
