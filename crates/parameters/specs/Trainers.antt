-- The rule that a trainer stands for, its switches, and what a method is: a trainer with its settings. Assumes nothing.
use Rattle.std.specs.Prelude.{Bool, not, ℕ, eqb}
use Rattle.training.specs.Rules.{Rule, perceptron, passive, arow}
use Rattle.training.specs.Epochs as training
use Rattle.parameters.specs.declared.Trainer.{Trainer}
use Rattle.parameters.specs.declared.Method.{Method}
use Rattle.parameters.specs.declared.Settings.{Settings}

-- the rule of a trainer
abbrev pub rule_of : Trainer → Rule
rule_of Trainer.Perceptron = perceptron
rule_of (Trainer.Passive variant c sensitive averaging) = passive variant c sensitive averaging
rule_of (Trainer.Arow variance gamma) = arow variance gamma

-- "two switches, error-sensitive and averaging; where one comes as a number, 0 is off and all else on"
abbrev pub on : ℕ → Bool
on switch = not (eqb switch 0)

-- ---- of a method: which trainer is called, and with which parameters

-- the update and the stop test
abbrev pub rule_for : Method → Rule
rule_for (Method.AveragedPerceptron p) = perceptron
rule_for (Method.PassiveAggressive p) = passive p.variant p.c (on p.sensitive) (on p.averaging)
rule_for (Method.Arow p) = arow p.variance p.gamma

-- "a required 64-bit seed", the epochs allowed, and epsilon
abbrev pub settings_in : Settings → training.Settings
settings_in s = record { epochs = s.epochs; epsilon = s.epsilon; seed = s.seed }

abbrev pub settings_for : Method → training.Settings
settings_for (Method.AveragedPerceptron p) = record { epochs = p.epochs; epsilon = p.epsilon; seed = p.seed }
settings_for (Method.PassiveAggressive p) = record { epochs = p.epochs; epsilon = p.epsilon; seed = p.seed }
settings_for (Method.Arow p) = record { epochs = p.epochs; epsilon = p.epsilon; seed = p.seed }
