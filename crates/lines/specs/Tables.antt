-- What a model and its lines are, as flat tables. Assumes nothing.
use Rattle.std.specs.Prelude.{List, ℕ, get_or, Float}
use Rattle.std.specs.Float.{nan}
use Rattle.lines.specs.declared.Attribute.{Attribute}

-- "A feature has kind, source, destination and weight": the weights lie in a table of their own, which counting and training are not lent
pub record Features : Type 0 where
  pub count : ℕ
  pub kinds : List ℕ
  pub destinations : List ℕ
  pub sources : List ℕ

-- "Lists lie flat: for n lists, n+1 starts": n lists of feature ids
pub record Lists : Type 0 where
  pub count : ℕ
  pub starts : List ℕ
  pub size : ℕ
  pub entries : List ℕ

pub record Model : Type 0 where
  pub labels : ℕ
  pub features : Features
  pub attribute_lists_of : Lists
  pub label_lists_of : Lists

-- "a word a list of attributes": for each word where its attributes begin, for each attribute its id and its value
pub record Words : Type 0 where
  pub starts : List ℕ
  pub size : ℕ
  pub ids : List ℕ
  pub values : List Float

-- "An attribute is an id with a value"
abbrev pub attribute_at : Words → ℕ → Attribute
attribute_at words a = record { id = get_or words.ids a 0; value = get_or words.values a nan }

-- "kinds State 0 and Transition 1"
abbrev pub State : ℕ
State = 0

abbrev pub Transition : ℕ
Transition = 1
