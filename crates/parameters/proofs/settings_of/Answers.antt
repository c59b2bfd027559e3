-- `parameters::settings_of` meets its contract, method by method. Assumes nothing.
use Rattle.parameters.proofs.settings_of.Goals as goal

pub returns-in-AveragedPerceptron : goal.returns-in-AveragedPerceptron
returns-in-AveragedPerceptron c =
    rw c.in-AveragedPerceptron.is

pub returns-in-PassiveAggressive : goal.returns-in-PassiveAggressive
returns-in-PassiveAggressive c =
    rw c.in-PassiveAggressive.is

pub returns-in-Arow : goal.returns-in-Arow
returns-in-Arow c =
    rw c.in-Arow.is
