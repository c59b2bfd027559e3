-- `parameters::trainer_of` meets its contract, method by method. Assumes nothing.
use Rattle.parameters.proofs.trainer_of.Goals as goal

pub returns-in-PassiveAggressive : goal.returns-in-PassiveAggressive
returns-in-PassiveAggressive c =
    rw (c.in-PassiveAggressive.is, c.is_on.ensures, c.is_on-in-PassiveAggressive.ensures)

pub returns-in-Arow : goal.returns-in-Arow
returns-in-Arow c =
    rw c.in-Arow.is
