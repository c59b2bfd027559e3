-- A model of which a function is lent a part: those tables, and the rest as in another model. Assumes nothing.
use Rattle.std.specs.Prelude.{List, [], ℕ}
use Rattle.lines.specs.Tables.{Model}

-- no tables at all
abbrev pub bare : Model
bare =
    record {
      labels = 0;
      features = record { count = 0; kinds = []; destinations = []; sources = [] };
      attribute_lists_of = record { count = 0; starts = []; size = 0; entries = [] };
      label_lists_of = record { count = 0; starts = []; size = 0; entries = [] };
    }

-- what state scores look at
abbrev pub with_states : (rest : Model) (labels features : ℕ) (kinds destinations : List ℕ) (lists : ℕ) (starts entries : List ℕ) → Model
with_states rest labels features kinds destinations lists starts entries =
    record {
      labels = labels;
      features = record { count = features; kinds = kinds; destinations = destinations; sources = rest.features.sources };
      attribute_lists_of = record { count = lists; starts = starts; size = rest.attribute_lists_of.size; entries = entries };
      label_lists_of = rest.label_lists_of;
    }

-- what transition scores look at
abbrev pub with_transitions : (rest : Model) (labels features : ℕ) (kinds destinations sources : List ℕ) (lists : ℕ) (starts entries : List ℕ) → Model
with_transitions rest labels features kinds destinations sources lists starts entries =
    record {
      labels = labels;
      features = record { count = features; kinds = kinds; destinations = destinations; sources = sources };
      attribute_lists_of = rest.attribute_lists_of;
      label_lists_of = record { count = lists; starts = starts; size = rest.label_lists_of.size; entries = entries };
    }

-- what feature counts look at
abbrev pub with_counts : (rest : Model) (features : ℕ) (kinds destinations sources : List ℕ) (lists : ℕ) (starts entries : List ℕ) (label_lists_of : ℕ) (label_starts_of label_entries_of : List ℕ) → Model
with_counts rest features kinds destinations sources lists starts entries label_lists_of label_starts_of label_entries_of =
    record {
      labels = rest.labels;
      features = record { count = features; kinds = kinds; destinations = destinations; sources = sources };
      attribute_lists_of = record { count = lists; starts = starts; size = rest.attribute_lists_of.size; entries = entries };
      label_lists_of = record { count = label_lists_of; starts = label_starts_of; size = rest.label_lists_of.size; entries = label_entries_of };
    }
