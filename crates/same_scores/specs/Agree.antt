-- "Two inputs that agree on L, on the line, on the lists of attributes in it with the features named there, and on the label lists with theirs, get the same scores and path". The proof is in proofs/Same.
--
-- What has to agree is what that sentence names, and of it only what scoring can read. Of the list of an attribute in the line:
-- its State features, in order, each in destination and weight. Of the list of a label: its Transition features, in order, each
-- in source, destination and weight. Lists that agree whole agree in that; a list that is missing agrees with an empty one.
-- All else may differ: how features are numbered and how many there are, where lists lie and how many there are, what stands in
-- lists that no attribute of the line has, and where in its table the line begins.
-- "As long as both are accepted" says when a call gives scores at all; what the scores are does not turn on it.
use Rattle.std.specs.Prelude.{◌≡◌, List, ℕ, ◌<◌, Float}
use Rattle.best_path.specs.Scores.{Scores, tabled}
use Rattle.best_path.specs.Decoded.{decoded_path, decoded_sum}
use Rattle.best_path.specs.Lead.{lead}
use Rattle.lines.specs.Scored.{states_of, transitions_of}
use Rattle.same_scores.specs.Named.{ScoringInput, attributes_of, InLine, states_for, transitions_for}

pub record Agree (i j : ScoringInput) : Type 0 where
  -- "on L"
  pub labels : i.model.labels ≡ j.model.labels
  -- "on the line": as many words, and each the same list of attributes
  pub words : i.words ≡ j.words
  pub line : (word : ℕ) → word < i.words → attributes_of i word ≡ attributes_of j word
  -- "on the lists of attributes in it with the features named there"
  pub attributes : (id : ℕ) → InLine i id → states_for i id ≡ states_for j id
  -- "and on the label lists with theirs": those of the labels
  pub followers : (label : ℕ) → label < i.model.labels → transitions_for i label ≡ transitions_for j label

abbrev pub states_of_input : ScoringInput → List Float
states_of_input i = states_of i.model i.weights i.table i.first i.words

abbrev pub transitions_of_input : ScoringInput → List Float
transitions_of_input i = transitions_of i.model i.weights

abbrev pub scores_of_input : ScoringInput → Scores
scores_of_input i = tabled i.model.labels (transitions_of_input i) (states_of_input i)

-- "get the same scores and path", and so the same sum and lead, all to the bit
pub record SameScoresAndPath (i j : ScoringInput) : Type 0 where
  pub same_states : states_of_input i ≡ states_of_input j
  pub same_transitions : transitions_of_input i ≡ transitions_of_input j
  pub path : decoded_path (scores_of_input i) i.words ≡ decoded_path (scores_of_input j) j.words
  pub sum : decoded_sum (scores_of_input i) i.words ≡ decoded_sum (scores_of_input j) j.words
  pub ahead : lead (scores_of_input i) i.words ≡ lead (scores_of_input j) j.words

abbrev pub OnlyNamedMatters : Type 0
OnlyNamedMatters = (i j : ScoringInput) → Agree i j → SameScoresAndPath i j
