-- What `set_weights` promises: document 01's answer, and the table's contents afterwards, for refused calls too. Assumes nothing.
use Rattle.std.specs.Prelude.{◌≡◌, List, [], ◌∷◌, ◌++◌, ℕ, length, take, drop, Float, Ok, Err}
use Rattle.refusals.specs.Refusals.{Checked, first}
use Rattle.refusals.specs.Bounds.{the_features, weight_table}
use Rattle.refusal_rows.specs.Limits.{Limit, count, room, two}
use Rattle.refusal_rows.specs.Tests.{Test, numbers_finite, checks}
use Rattle.refusals.specs.Said.{Said, said_of}

-- F, and the new weights
pub record Setting : Type 0 where
  pub features : ℕ
  pub new : List Float

-- the answer, and what the table of weights holds afterwards
pub record Outcome : Type 0 where
  pub answer : Checked
  pub weights : List Float

-- 2 | "a count .. outside its bound" | 0
abbrev pub new_counts : Setting → List Limit
new_counts given = count the_features given.features ∷ []

-- 2 | "a lent buffer too short" | 0
abbrev pub new_rooms : Setting → ℕ → List Limit
new_rooms given have =
    room (length given.new) given.features
    ∷ room have given.features
    ∷ []

-- 6 | "a weight .. not finite" | "index in its table"
abbrev pub new_tests : Setting → List Test
new_tests given = numbers_finite weight_table given.new given.features ∷ []

-- "The lowest number wins": 2 of the count, 2 of the rooms, 6, for a table that has so many places
unfoldable pub new_checked : Setting → ℕ → Checked
new_checked given have = first (two (new_counts given) ∷ two (new_rooms given have) ∷ checks (new_tests given))

-- "every lent buffer holds its entry contents" where the call is refused; else the first F are the new weights, and the rest is as it was
abbrev pub table_after : Checked → Setting → List Float → List Float
table_after (Err why) given before = before
table_after (Ok _) given before = take given.features given.new ++ drop given.features before

unfoldable pub answer_to : Setting → List Float → Said Unit
answer_to given before = said_of (new_checked given (length before))

unfoldable pub weights_after : Setting → List Float → List Float
weights_after given before = table_after (new_checked given (length before)) given before

-- the promise
pub record WeightsSet (given : Setting) (before : List Float) (outcome : Outcome) : Type 0 where
  pub answers : said_of outcome.answer ≡ answer_to given before
  pub weights : outcome.weights ≡ weights_after given before

-- no two different outcomes satisfy one promise; proved in proofs/Unique
abbrev pub OnlyOne : Type 0
OnlyOne = (given : Setting) (before : List Float) (a b : Outcome) → WeightsSet given before a → WeightsSet given before b → a ≡ b
