-- Decided points of a trainer's checks, computed over P9's model: what is accepted, and which number comes first. Assumes nothing.
use Rattle.std.specs.Prelude.{◌≡◌, refl, true, List, [], ◌∷◌, ℕ, pos, Float, Ok}
use Rattle.std.specs.Float.{nan, inf, fin}
use Rattle.std.specs.Float.Ieee.{of_int, lt}
use Rattle.refusals.specs.Refusals.{refused_at, refuse, or_next_of, lowest}
use Rattle.refusal_rows.specs.Limits.{in_order_of}
use Rattle.refusal_rows.specs.Tests.{in_table_order}
use Rattle.binary64.specs.Numbers.{nought, whole}
use Rattle.parameters.specs.Parameters.{Parameter, perceptrons_own, passives_own, arows_own}
use Rattle.training_check.specs.Rows.{Input, input_counts, input_starts, input_ids, input_numbers, training_checked}

-- "L=2, one word, attribute 0 of value 1 listing State features to labels 0 and 1, instance weight 1, .. reference 0"; so many instances that begin so
abbrev p9 : ℕ → List ℕ → Float → Input
p9 instances starts value = record {
  model = record {
    labels = 2;
    features = record { count = 2; kinds = 0 ∷ 0 ∷ []; destinations = 0 ∷ 1 ∷ []; sources = 0 ∷ 0 ∷ [] };
    attribute_lists_of = record { count = 1; starts = 0 ∷ 2 ∷ []; size = 2; entries = 0 ∷ 1 ∷ [] };
    label_lists_of = record { count = 0; starts = 0 ∷ []; size = 0; entries = [] };
  };
  corpus = record {
    instances = instances;
    starts = starts;
    count = 1;
    words = record { starts = 0 ∷ 1 ∷ []; size = 1; ids = 0 ∷ []; values = value ∷ [] };
    references = 0 ∷ [];
    weights = (whole 1) ∷ (whole 1) ∷ [];
  };
  lent = record { weights = 2; beside = 2; truly = 2; predicted = 2; order = 2 };
}

abbrev perceptron : ℕ → Float → List Parameter
perceptron epochs epsilon = perceptrons_own (record { epochs = epochs; epsilon = epsilon; seed = 0 })

abbrev passive : Float → ℕ → List Parameter
passive c variant = passives_own (record { epochs = 1; epsilon = nought; seed = 0; variant = variant; c = c; sensitive = 0; averaging = 0 })

abbrev arow : Float → List Parameter
arow gamma = arows_own (record { epochs = 1; epsilon = nought; seed = 0; variance = (whole 1); gamma = gamma })

abbrev minus_zero : Float
minus_zero = fin true 0 (pos 0)

-- P9, and "Epsilon of −0 is zero"
accepted : training_checked (p9 1 (0 ∷ 1 ∷ []) (whole 1)) (perceptron 1 minus_zero) ≡ Ok tt
unfolding training_checked lowest or_next_of refuse of_int lt
accepted = refl

-- "N of 0 is 2"
no_instance : training_checked (p9 0 (0 ∷ []) (whole 1)) (perceptron 1 nought) ≡ refused_at 2 0
unfolding training_checked lowest or_next_of refuse of_int lt
no_instance = refl

-- 4 "with the first bad instance as place", before 6
no_words : training_checked (p9 2 (0 ∷ 1 ∷ 1 ∷ []) nan) (perceptron 1 nought) ≡ refused_at 4 1
unfolding training_checked lowest or_next_of refuse of_int lt
no_words = refl

-- "7 comes after every table"
tables_first : training_checked (p9 1 (0 ∷ 1 ∷ []) nan) (perceptron 0 nought) ≡ refused_at 6 0
unfolding training_checked lowest or_next_of refuse of_int lt
tables_first = refl

-- "Epochs 0 and 1,001 are 7, place 1", also where epsilon is bad
epochs : (training_checked (p9 1 (0 ∷ 1 ∷ []) (whole 1)) (perceptron 0 nan) ≡ refused_at 7 1) × (training_checked (p9 1 (0 ∷ 1 ∷ []) (whole 1)) (perceptron 1001 nought) ≡ refused_at 7 1)
unfolding training_checked lowest or_next_of refuse of_int lt
epochs = (refl, refl)

-- "C = 0, NaN": "tested for every variant"; "variant above 2"
scales : (training_checked (p9 1 (0 ∷ 1 ∷ []) (whole 1)) (passive nought 0) ≡ refused_at 7 3) × (training_checked (p9 1 (0 ∷ 1 ∷ []) (whole 1)) (passive nan 0) ≡ refused_at 7 3) × (training_checked (p9 1 (0 ∷ 1 ∷ []) (whole 1)) (passive (whole 1) 3) ≡ refused_at 7 5)
unfolding training_checked lowest or_next_of refuse of_int lt
scales = (refl, refl, refl)

-- gamma not finite
gammas : training_checked (p9 1 (0 ∷ 1 ∷ []) (whole 1)) (arow (inf true)) ≡ refused_at 7 4
unfolding training_checked lowest or_next_of refuse of_int lt
gammas = refl

-- the counts are tested in the order of "Tables and bounds"
counts_in_order : (g : Input) → in_order_of (input_counts g) ≡ true
counts_in_order g = refl

-- and 3, 5 and 6 in the order of the tables
tables_in_order : (g : Input) →
    (in_table_order (input_starts g) ≡ true) × (in_table_order (input_ids g) ≡ true) × (in_table_order (input_numbers g.corpus) ≡ true)
tables_in_order g = (refl, refl, refl)
