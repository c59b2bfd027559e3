-- What the check of a model promises: document 01's answer to what it is given. It is lent nothing to change, so the outcome is the answer. Assumes nothing.
use Rattle.std.specs.Prelude.{◌≡◌, List, Float}
use Rattle.refusals.specs.Refusals.{Checked}
use Rattle.refusals.specs.Said.{Said, said_of}
use Rattle.lines.specs.Tables.{Model}
use Rattle.feature_gen.specs.Rows.{model_checked}

pub record Given : Type 0 where
  pub model : Model
  pub weights : List Float

-- what document 01 says: refused by the first row that applies
unfoldable pub answer_to : Given → Said Unit
answer_to given = said_of (model_checked given.model given.weights)

-- the promise
pub record ModelChecked (given : Given) (outcome : Checked) : Type 0 where
  pub answers : said_of outcome ≡ answer_to given

-- no two different outcomes satisfy one promise; proved in proofs/Unique
abbrev pub OnlyOne : Type 0
OnlyOne = (given : Given) (a b : Checked) → ModelChecked given a → ModelChecked given b → a ≡ b
