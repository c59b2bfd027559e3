-- What scoring a line promises: document 01's answer to what the call is given, and what the lent buffers hold afterwards. Assumes nothing.
use Rattle.std.specs.Prelude.{◌≡◌, List, ℕ, ◌*◌, length, Float}
use Rattle.refusals.specs.Refusals.{Checked, or_next_of}
use Rattle.binary64.specs.Numbers.{nought}
use Rattle.lines.specs.Tables.{Model, Words}
use Rattle.lines.specs.Scored.{states_of, transitions_of}
use Rattle.refusals.specs.Said.{Said, said_of}
use Rattle.line_check.specs.Rows.{Scoring, scoring_checked}
use Rattle.finished.specs.Rows.{scores_finished}
use Rattle.finished.specs.After.{contents}

-- what the call is given: a model with its weights, T, and the line's attributes by words
pub record Given : Type 0 where
  pub model : Model
  pub weights : List Float
  pub words : ℕ
  pub line : Words

-- the buffers that it is lent
pub record Buffers : Type 0 where
  pub transitions : List Float
  pub states : List Float

-- the answer, and what the buffers hold afterwards
pub record Outcome : Type 0 where
  pub answer : Checked
  pub transitions : List Float
  pub states : List Float

-- how many entries are needed: T·L states, L·L transitions
abbrev pub state_entries : Given → ℕ
state_entries given = given.words * given.model.labels

abbrev pub transition_entries : Given → ℕ
transition_entries given = given.model.labels * given.model.labels

-- the line's scores
abbrev pub states_of_line : Given → List Float
states_of_line given = states_of given.model given.weights given.line 0 given.words

abbrev pub transitions_of_line : Given → List Float
transitions_of_line given = transitions_of given.model given.weights

-- 1, 4, 2, 3, 5, 6
abbrev pub scoring_of : Given → Buffers → Scoring
scoring_of given before = record {
  model = given.model;
  weights = given.weights;
  words = given.words;
  line = given.line;
  transitions = length before.transitions;
  states = length before.states;
}

abbrev pub checked_of : Given → Buffers → Checked
checked_of given before = scoring_checked (scoring_of given before)

-- 8
abbrev pub scores_finished_of : Given → Checked
scores_finished_of given = scores_finished given.model.labels given.words (states_of_line given) (transitions_of_line given)

-- what document 01 says: "The lowest number wins", so 8 comes last
unfoldable pub answer_to : Given → Buffers → Said Unit
answer_to given before = said_of (or_next_of (checked_of given before) (scores_finished_of given))

unfoldable pub states_after : Given → Buffers → List Float
states_after given before = contents (checked_of given before) (scores_finished_of given) nought (state_entries given) before.states (states_of_line given)

unfoldable pub transitions_after : Given → Buffers → List Float
transitions_after given before =
    contents (checked_of given before) (scores_finished_of given) nought (transition_entries given) before.transitions (transitions_of_line given)

-- the promise
pub record Promised (given : Given) (before : Buffers) (outcome : Outcome) : Type 0 where
  pub answers : said_of outcome.answer ≡ answer_to given before
  pub transitions : outcome.transitions ≡ transitions_after given before
  pub states : outcome.states ≡ states_after given before

-- no two different outcomes satisfy one promise; proved in proofs/Unique
abbrev pub OnlyOne : Type 0
OnlyOne = (given : Given) (before : Buffers) (a b : Outcome) → Promised given before a → Promised given before b → a ≡ b
