-- Lines with no state score: where nothing is named, "State and transition scores start at +0" and stay there. The proofs are in proofs/NoScore.
use Rattle.std.specs.Prelude.{◌≡◌, [], ℕ, ◌*◌, ◌<◌, replicate}
use Rattle.binary64.specs.Numbers.{nought}
use Rattle.same_scores.specs.Named.{ScoringInput, attributes_of, InLine, states_for}
use Rattle.same_scores.specs.Agree.{states_of_input}

-- no attribute in the line names a State feature
abbrev pub NothingNamed : Type 0
NothingNamed = (i : ScoringInput) → ((id : ℕ) → InLine i id → states_for i id ≡ []) → states_of_input i ≡ replicate (i.words * i.model.labels) nought

-- the words of the line have no attributes
abbrev pub NoAttributes : Type 0
NoAttributes = (i : ScoringInput) → ((word : ℕ) → word < i.words → attributes_of i word ≡ []) → states_of_input i ≡ replicate (i.words * i.model.labels) nought
