-- What the tables of a scoring call name: the line as lists of attributes, and the features that a list leads to. Assumes nothing.
use Rattle.std.specs.Prelude.{cond, List, [], ◌∷◌, ◌++◌, ℕ, zero, suc, ◌+◌, ◌≤◌, ◌<◌, ◌≡◌, eqb, ltb, get_or, Float}
use Rattle.std.specs.Float.{nan}
use Rattle.lines.specs.declared.Attribute.{Attribute}
use Rattle.lines.specs.Passes.{start, size}
use Rattle.lines.specs.Tables.{Lists, Model, Words, attribute_at, State, Transition}

-- an input of scoring: a model and its weights, and the line of so many words that begins at the word `first` of a table
pub record ScoringInput : Type 0 where
  pub model : Model
  pub weights : List Float
  pub table : Words
  pub first : ℕ
  pub words : ℕ

-- f first, f (first + 1), ..: n of them
unfoldable pub listed : {A : Type 0} → (ℕ → A) → ℕ → ℕ → List A
listed f first zero = []
listed f first (suc n) = listed f first n ++ (f (first + n) ∷ [])

-- "Lists lie flat": list a, with what f makes of each of its places
abbrev pub list_at : {A : Type 0} → (ℕ → A) → List ℕ → ℕ → List A
list_at f starts a = listed f (start starts a) (size starts a)

-- "a word a list of attributes": those of a word of a table, and of a word of the line
unfoldable pub attributes_at : Words → ℕ → List Attribute
attributes_at table word = list_at (attribute_at table) table.starts word

abbrev pub attributes_of : ScoringInput → ℕ → List Attribute
attributes_of i word = attributes_at i.table (i.first + word)

-- the attributes in the line: one at a place of one of its words has this id
pub record InLine (i : ScoringInput) (id : ℕ) : Type 0 where
  pub word : ℕ
  pub place : ℕ
  pub below : word < i.words
  pub from : start i.table.starts (i.first + word) ≤ place
  pub to : place < start i.table.starts (i.first + word + 1)
  pub has : get_or i.table.ids place 0 ≡ id

-- "A feature has kind, source, destination and weight"
pub record Feature : Type 0 where
  pub kind : ℕ
  pub source : ℕ
  pub destination : ℕ
  pub weight : Float

abbrev pub feature_at : ScoringInput → ℕ → Feature
feature_at i f = record {
  kind = get_or i.model.features.kinds f 0;
  source = get_or i.model.features.sources f 0;
  destination = get_or i.model.features.destinations f 0;
  weight = get_or i.weights f nan;
}

-- the features that list a names, in order; none where there is no such list
unfoldable pub named_by : ScoringInput → Lists → ℕ → List Feature
named_by i lists a = cond (ltb a lists.count) (list_at (λ place. feature_at i (get_or lists.entries place 0)) lists.starts a) []

-- what is read of those features that are of a kind, in order
unfoldable pub among : {A : Type 0} → ℕ → (Feature → A) → List Feature → List A
among kind read [] = []
among kind read (f ∷ fs) = cond (eqb f.kind kind) (read f ∷ among kind read fs) (among kind read fs)

-- of a State feature: "a State feature's source is not read and may be anything"
pub record StateFeature : Type 0 where
  pub destination : ℕ
  pub weight : Float

abbrev pub as_state : Feature → StateFeature
as_state f = record { destination = f.destination; weight = f.weight }

-- of a Transition feature
pub record TransitionFeature : Type 0 where
  pub source : ℕ
  pub destination : ℕ
  pub weight : Float

abbrev pub as_transition : Feature → TransitionFeature
as_transition f = record { source = f.source; destination = f.destination; weight = f.weight }

-- "the lists of attributes in it with the features named there": the State features in the list of an attribute's id
unfoldable pub states_for : ScoringInput → ℕ → List StateFeature
states_for i id = among State as_state (named_by i i.model.attribute_lists_of id)

-- "the label lists with theirs": the Transition features in the list of a label
unfoldable pub transitions_for : ScoringInput → ℕ → List TransitionFeature
transitions_for i label = among Transition as_transition (named_by i i.model.label_lists_of label)
