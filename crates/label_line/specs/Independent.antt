-- "Two inputs that agree on L, on the line, on the lists of attributes in it with the features named there, and on the label lists with theirs, get the same scores and path, as long as both are accepted": the path, with its sum and lead, of whatever satisfies the promise. The proof is in proofs/Independent.
use Rattle.std.specs.Prelude.{◌≡◌, List, ℕ, take}
use Rattle.viterbi.specs.Promise.{said}
use Rattle.same_scores.specs.Agree.{Agree}
use Rattle.compute_scores.specs.Promise.{Given}
use Rattle.compute_scores.specs.Independent.{scoring_input_of}
use Rattle.label_line.specs.Promise.{Outcome, IsLabelled, Promised}

pub record SameLabelling (a b : Given) (x y : Outcome) : Type 0 where
  -- the same sum and lead
  pub answers : said x.answer ≡ said y.answer
  pub path : take a.words x.path ≡ take b.words y.path

abbrev pub SameLabels : Type 0
SameLabels =
    (a b : Given) → Agree (scoring_input_of a) (scoring_input_of b) →
    (before other : List ℕ) (x y : Outcome) → Promised a before x → Promised b other y →
    IsLabelled x → IsLabelled y →
    SameLabelling a b x y
