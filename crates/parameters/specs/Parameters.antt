-- Row 7 of document 01's table as lists of parameters, a list for each trainer: what is refused, and what is fine in plain terms. Assumes nothing.
use Rattle.std.specs.Prelude.{◌≡◌, Bool, true, false, not, ◌||◌, List, [], ◌∷◌, ◌⊎◌, ℕ, ◌≤◌, ltb, T, Float}
use Rattle.std.specs.Float.Ieee.{lt}
use Rattle.std.specs.Float.Ieee.Scale.{finite}
use Rattle.refusals.specs.Refusals.{Checked, refuse}
use Rattle.refusals.specs.Bounds.{the_epochs, bound, Inside, outside_its}
use Rattle.binary64.specs.Numbers.{nought}
use Rattle.parameters.specs.declared.Perceptron.{Perceptron}
use Rattle.parameters.specs.declared.Passive.{Passive}
use Rattle.parameters.specs.declared.Arow.{Arow}
use Rattle.parameters.specs.declared.Method.{Method}

-- "variants 0 Pa, 1 PaI, 2 PaII"
abbrev pub last_variant : ℕ
last_variant = 2

-- 7 | "bad parameter: 1 epochs, 2 epsilon negative, 3 C or variance not above 0, 4 gamma not above 0, 5 variant above 2"
pub data Parameter : Type 0 where
  epochs : ℕ → Parameter
  epsilon : Float → Parameter
  scale : Float → Parameter
  gamma : Float → Parameter
  variant : ℕ → Parameter

-- "each trainer tests only its own"
abbrev pub perceptrons_own : Perceptron → List Parameter
perceptrons_own p = epochs p.epochs ∷ epsilon p.epsilon ∷ []

abbrev pub passives_own : Passive → List Parameter
passives_own p = epochs p.epochs ∷ epsilon p.epsilon ∷ scale p.c ∷ variant p.variant ∷ []

abbrev pub arows_own : Arow → List Parameter
arows_own p = epochs p.epochs ∷ epsilon p.epsilon ∷ scale p.variance ∷ gamma p.gamma ∷ []

abbrev pub own_of : Method → List Parameter
own_of (Method.AveragedPerceptron p) = perceptrons_own p
own_of (Method.PassiveAggressive p) = passives_own p
own_of (Method.Arow p) = arows_own p

abbrev pub parameter_number : Parameter → ℕ
parameter_number (epochs n) = 1
parameter_number (epsilon x) = 2
parameter_number (scale x) = 3
parameter_number (gamma x) = 4
parameter_number (variant v) = 5

-- "2 to 4 also when not finite"; "Epsilon of −0 is zero"
abbrev pub negative : Float → Bool
negative x = lt x nought || not (finite x)

abbrev pub not_above_zero : Float → Bool
not_above_zero x = not (lt nought x) || not (finite x)

abbrev pub unfit : Parameter → Bool
unfit (epochs n) = outside_its the_epochs n
unfit (epsilon x) = negative x
unfit (scale x) = not_above_zero x
unfit (gamma x) = not_above_zero x
unfit (variant v) = ltb last_variant v

-- 7 | a bad parameter | "the lowest such number"
abbrev pub sevens : List Parameter → List Checked
sevens [] = []
sevens (p ∷ ps) = refuse 7 (parameter_number p) (unfit p) ∷ sevens ps

-- ---- the same in plain terms

abbrev pub Fit : Parameter → Type 0
Fit (epochs n) = Inside (bound the_epochs) n
Fit (epsilon x) = (lt x nought ≡ false) × T (finite x)
Fit (scale x) = (lt nought x ≡ true) × T (finite x)
Fit (gamma x) = (lt nought x ≡ true) × T (finite x)
Fit (variant v) = v ≤ last_variant

abbrev pub AllFit : List Parameter → Type 0
AllFit [] = Unit
AllFit (p ∷ ps) = Fit p × AllFit ps

-- the number of the first parameter that is not fit
abbrev pub FirstUnfit : List Parameter → ℕ → Type 0
FirstUnfit [] number = ⊥
FirstUnfit (p ∷ ps) number = ((number ≡ parameter_number p) × (Fit p → ⊥)) ⊎ (Fit p × FirstUnfit ps number)
