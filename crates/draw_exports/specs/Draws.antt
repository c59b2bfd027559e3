-- What a draw and a shuffle from C give. Assumes nothing.
use Rattle.std.specs.Prelude.{◌≡◌, List, ℕ, length, Ok, Err}
use Rattle.refusals.specs.Refusals.{Checked, refuse}
use Rattle.refusals.specs.Bounds.{the_instances, outside_its}
use Rattle.refusals.specs.Said.{said_of}
use Rattle.generator.specs.Draw.{number, next}
use Rattle.shuffle.specs.Shuffle.{Deal, shuffled}
use Rattle.answers.specs.declared.checks.Refused.{Refused}
use Rattle.answers.specs.Numbers.{numbers}

-- a draw from a state: the number that is drawn, and the state after it
pub record Drew (state drawn after : ℕ) : Type 0 where
  pub draws : drawn ≡ number state
  pub advances : after ≡ next state

-- the answer, and what was lent as it is afterwards
pub record Shuffled : Type 0 where
  pub answer : Refused
  pub state : ℕ
  pub order : List ℕ

-- 2: "Instances N: 1 to 16,384"
abbrev pub check : ℕ → Checked
check n = refuse 2 0 (outside_its the_instances n)

-- where nothing is refused the deal is shuffled, else it is as at entry
abbrev pub dealt : Checked → ℕ → Deal → Deal
dealt (Ok _) n d = shuffled n d
dealt (Err why) n d = d

-- the promise: of the state and the order at entry, and the outcome
pub record Shuffling (state : ℕ) (order : List ℕ) (o : Shuffled) : Type 0 where
  pub answers : o.answer ≡ numbers (said_of (check (length order)))
  pub deals : ◌≡◌ {A = Deal} (record { state = o.state; order = o.order }) (dealt (check (length order)) (length order) (record { state = state; order = order }))
