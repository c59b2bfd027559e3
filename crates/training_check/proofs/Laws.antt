-- What the sizes give a trainer that accepts them, the parts that its input is checked in, and when so many words are no line. Assumes nothing.
use Rattle.std.specs.Prelude.{Ok}
use mathlib.Core.Path.{◌≡◌, refl, ◌∙◌}
use mathlib.Core.Bool.{true}
use mathlib.Core.List.{List, [], ◌∷◌, ◌++◌}
use Prim.Native.Nat.{ℕ, ◌+◌, ◌-◌, ◌<◌, ◌≤◌}
use native.Mathlib.Omega.{arith}
use borrow.Author.Tests.{lt-ltb}
use lib.ListN.{length}
use Rattle.refusals.specs.Refusals.{Checked, or_next_of, sooner, first_from}
use Rattle.refusals.specs.Bounds.{the_line_words, outside_its, reference_table, instance_weight_table}
use Rattle.score_tables.specs.Rows.{one}
use Rattle.refusal_rows.specs.Limits.{Limit, room, any_broken, AllWithin, Fitting}
use Rattle.refusal_rows.specs.Tests.{ids_below, numbers_finite}
use Rattle.refusal_rows.proofs.Means.{within_parts}
use Rattle.refusal_rows.proofs.Parts.{ordered, joined, same_limits, as_rows, part_within}
use Rattle.feature_gen.specs.Rows.{model_counts, model_rooms}
use Rattle.feature_gen.specs.Parts.{table_limits, table_tests, tables_checked, weights_checked}
use Rattle.feature_gen.proofs.Laws.{sized}
use Rattle.line_check.specs.Rows.{line_rooms}
use Rattle.line_check.specs.Parts.{line_limits, line_tests, line_checked, labels_checked}
use Rattle.line_check.proofs.Laws.{line_sized_lem}
use Rattle.lines.specs.Data.{Data}
use Rattle.parameters.specs.Parameters.{Parameter, sevens}
use Rattle.training_check.specs.Rows.{Input, data_counts, data_rooms, lent_rooms, input_counts, input_rooms, training_checked}
use Rattle.training_check.specs.Parts.{instance_limits, instance_tests, instances_sized, instances_checked, data_limits, data_tests, data_checked, lent_checked, input_checked}
use Rattle.training_check.specs.Sound.{DataSized, InputFits}

-- no words, or starts that fall
pub no_line : (start next : ℕ) → next ≤ start → outside_its the_line_words (next - start) ≡ true
no_line start next h = let z : next - start < 1 = omega arith in rw (lt-ltb (next - start) 1 z)

-- ---- the instances

module _ (instances words : ℕ) (starts : List ℕ) where
  pub instances_room : {sizes : Checked} → sizes ≡ instances_sized instances words starts → sizes ≡ Ok tt → instances < length starts
  unfolding instances_sized
  instances_room e h =
      let w = part_within (instance_limits instances words starts) (instance_tests instances words starts) e h in
      omega (arith, w.1.1.0)

-- with their words, labels and weights
pub data_joined : (labels : ℕ) (d : Data) {instances line words labelled both weighted r : Checked} →
    instances ≡ instances_checked d.instances d.count d.starts → line ≡ line_checked d.count d.words → words ≡ sooner instances line →
    labelled ≡ labels_checked labels d.count d.references → both ≡ sooner words labelled →
    weighted ≡ weights_checked instance_weight_table d.instances d.weights → r ≡ sooner both weighted → r ≡ data_checked labels d
unfolding instances_checked line_checked labels_checked weights_checked data_checked
data_joined labels d a b c e f g h =
    let starts = instance_limits d.instances d.count d.starts in
    let line = line_limits d.count d.words in
    let references = room (length d.references) d.count ∷ [] in
    let shares = room (length d.weights) d.instances ∷ [] in
    let these = instance_tests d.instances d.count d.starts in
    let those = line_tests d.count d.words in
    let ids = ids_below reference_table d.references d.count labels ∷ [] in
    let words = joined starts line these those tt tt tt a b c in
    let both = joined (starts ++ line) references (ordered (these ++ those)) ids tt tt tt words e f in
    joined (starts ++ line ++ references) shares (ordered (ordered (these ++ those) ++ ids)) (numbers_finite instance_weight_table d.weights d.instances ∷ []) tt tt tt both g h

module _ (d : Data) where
  abbrev opened : List Limit
  opened = room (length d.starts) (d.instances + 1) ∷ []

  abbrev words : List Limit
  words = line_rooms d.count d.words

  abbrev beside : List Limit
  beside = room (length d.references) d.count ∷ room (length d.weights) d.instances ∷ []

  data_sized : AllWithin (data_counts d) → AllWithin (data_rooms d) → DataSized d
  data_sized n w =
      let p = within_parts (opened ++ words) beside w in
      let q = within_parts opened words p.0 in
      record {
        some = n.0.0;
        few_instances = n.0.1;
        few_words = n.1.0;
        words = line_sized_lem d.count d.words n.1.1.0 q.1;
        starts = omega (arith, q.0.0);
        references = p.1.0;
        weights = p.1.1.0;
      }

module _ (g : Input) where
  abbrev lent : List Limit
  lent = lent_rooms g.model.features.count g.corpus.instances g.lent

  abbrev parts : List Limit
  parts = table_limits g.model ++ data_limits g.corpus ++ lent

  same_input : any_broken parts ≡ any_broken (input_counts g ++ input_rooms g)
  same_input =
      same_limits parts (input_counts g ++ input_rooms g)
      (0 ∷ 1 ∷ 2 ∷ 3 ∷ 4 ∷ 12 ∷ 13 ∷ 15 ∷ 5 ∷ 6 ∷ 7 ∷ 8 ∷ 9 ∷ 10 ∷ 11 ∷ 14 ∷ 16 ∷ 17 ∷ 18 ∷ 19 ∷ 20 ∷ 21 ∷ 22 ∷ 23 ∷ 24 ∷ 25 ∷ [])
      (0 ∷ 1 ∷ 2 ∷ 3 ∷ 4 ∷ 8 ∷ 9 ∷ 10 ∷ 11 ∷ 12 ∷ 13 ∷ 14 ∷ 5 ∷ 6 ∷ 15 ∷ 7 ∷ 16 ∷ 17 ∷ 18 ∷ 19 ∷ 20 ∷ 21 ∷ 22 ∷ 23 ∷ 24 ∷ 25 ∷ [])
      refl refl

  -- 1, then the sooner of the parts
  pub input_answered : {labels tables corpus both buffers rest r : Checked} → labels ≡ one g.model.labels →
      tables ≡ tables_checked g.model → corpus ≡ data_checked g.model.labels g.corpus → both ≡ sooner tables corpus →
      buffers ≡ lent_checked g.model.features.count g.corpus.instances g.lent → rest ≡ sooner both buffers → r ≡ or_next_of labels rest → r ≡ input_checked g
  unfolding tables_checked data_checked lent_checked input_checked or_next_of
  input_answered a b c d e f h =
      let these = table_tests g.model in
      let those = data_tests g.model.labels g.corpus in
      let t = joined (table_limits g.model) (data_limits g.corpus) these those tt tt tt b c d in
      let all = joined (table_limits g.model ++ data_limits g.corpus) lent (ordered (these ++ those)) [] tt tt tt t e f in
      h
      ∙ rw (a, all)
      (as_rows (one g.model.labels) parts (input_counts g) (input_rooms g) (ordered (these ++ those)) same_input)

  pub input_within : Fitting (input_counts g) (input_rooms g) → InputFits g
  input_within w =
      let n = within_parts (model_counts g.model) (data_counts g.corpus) w.0 in
      let p = within_parts (model_rooms g.model ++ data_rooms g.corpus) lent w.1 in
      let q = within_parts (model_rooms g.model) (data_rooms g.corpus) p.0 in
      let l = p.1 in
      record {
        model = sized g.model n.0 q.0;
        corpus = data_sized g.corpus n.1 q.1;
        lent = record { weights = l.0; beside = l.1.0; truly = l.1.1.0; predicted = l.1.1.1.0; order = l.1.1.1.1.0 };
      }

  -- the input, then a trainer's own parameters: the whole call
  pub with_parameters : (parameters : List Parameter) → first_from (input_checked g) (sevens parameters) ≡ training_checked g parameters
  unfolding input_checked training_checked
  with_parameters parameters = refl
