-- What the rows of a model give a call that accepts them, and the parts that they are checked in. Assumes nothing.
use Rattle.std.specs.Prelude.{Ok}
use mathlib.Core.Path.{◌≡◌, refl, sym, ◌∙◌, ap}
use mathlib.Core.Bool.{Bool, ◌||◌}
use mathlib.Core.List.{List, [], ◌∷◌, ◌++◌}
use Prim.Native.Nat.{ℕ, ◌≤◌}
use native.Mathlib.Omega.{arith}
use lib.ListN.{length}
use lib.Ieee.{Float}
use Rattle.refusals.specs.Refusals.{Checked, refuse, or_next_of, sooner}
use Rattle.refusals.specs.Tables.{short}
use Rattle.score_tables.specs.Rows.{one}
use Rattle.refusal_rows.specs.Limits.{Limit, room, any_broken, AllWithin}
use Rattle.refusals.specs.Bounds.{Table, weight_table}
use Rattle.refusal_rows.specs.Tests.{numbers_finite}
use Rattle.refusal_rows.proofs.Means.{broken_parts, within_parts}
use Rattle.refusal_rows.proofs.Parts.{joined, same_limits, as_rows, two_parts, part_within}
use Rattle.lines.specs.Tables.{Model}
use Rattle.feature_gen.specs.Rows.{feature_rooms, weight_rooms, list_rooms, model_counts, model_rooms, weighted_rooms, weight_tests, model_checked}
use Rattle.feature_gen.specs.Parts.{table_limits, table_tests, weighted_limits, weighted_tests, tables_sized_of, tables_checked, weights_checked, weighted_checked}
use Rattle.feature_gen.specs.Sound.{ModelSized}

-- 2 does not apply
pub sized : (m : Model) → AllWithin (model_counts m) → AllWithin (model_rooms m) → ModelSized m
sized m w t =
    let l = t.1.1.1 in
    record {
      few_features = w.0;
      few_attribute_lists = w.1.0;
      few_label_lists = w.1.1.0;
      few_attribute_entries = w.1.1.1.0;
      few_label_entries = w.1.1.1.1.0;
      kinds = t.0;
      destinations = t.1.0;
      sources = t.1.1.0;
      attribute_starts = omega (arith, l.0);
      attribute_entries = l.1.0;
      label_starts_lem = omega (arith, l.1.1.0);
      label_entries = l.1.1.1.0;
    }

module _ (m : Model) (weights : List Float) where
  -- the rooms of a call that is lent weights
  pub room_for_weights : AllWithin (weighted_rooms m weights) → AllWithin (model_rooms m) × (m.features.count ≤ length weights)
  room_for_weights w = ((w.0, (w.1.0, (w.1.1.0, w.1.1.1.1))), w.1.1.1.0)

-- ---- the tables

module _ (m : Model) where
  -- limits that are tested part by part
  pub sizes_parts : refuse 2 0 (any_broken (model_counts m) || (any_broken (feature_rooms m.features) || any_broken (list_rooms m.attribute_lists_of m.label_lists_of))) ≡ tables_sized_of m
  unfolding tables_sized_of
  sizes_parts =
      ap (λ (b : Bool). refuse 2 0 (any_broken (model_counts m) || b)) (sym (broken_parts (feature_rooms m.features) (list_rooms m.attribute_lists_of m.label_lists_of)))
      ∙ two_parts (model_counts m) (model_rooms m)

  -- an answer that accepts the sizes: every table has room
  pub tables_sized : {sizes : Checked} → sizes ≡ tables_sized_of m → sizes ≡ Ok tt → ModelSized m
  unfolding tables_sized_of
  tables_sized e h =
      let w = within_parts (model_counts m) (model_rooms m) (part_within (table_limits m) (table_tests m) e h) in
      sized m w.0 w.1

-- ---- the weights

module _ (which : Table) (n : ℕ) (weights : List Float) where
  abbrev weight_room : List Limit
  weight_room = room (length weights) n ∷ []

  pub weights_sized : {sizes : Checked} → sizes ≡ refuse 2 0 (short (length weights) n) → sizes ≡ Ok tt → n ≤ length weights
  weights_sized e h = (part_within weight_room (numbers_finite which weights n ∷ []) e h).0

-- ---- both

module _ (m : Model) (weights : List Float) where
  pub weighted_joined : {tables own r : Checked} → tables ≡ tables_checked m → own ≡ weights_checked weight_table m.features.count weights → r ≡ sooner tables own → r ≡ weighted_checked m weights
  unfolding tables_checked weights_checked weighted_checked
  weighted_joined a b c = joined (table_limits m) (weight_rooms m.features weights) (table_tests m) (weight_tests m weights) tt tt tt a b c

  -- the weights stand behind the sources, where the call's slices have them
  same_rooms : any_broken (weighted_limits m weights) ≡ any_broken (model_counts m ++ weighted_rooms m weights)
  same_rooms =
      same_limits (weighted_limits m weights) (model_counts m ++ weighted_rooms m weights)
      (0 ∷ 1 ∷ 2 ∷ 3 ∷ 4 ∷ 5 ∷ 6 ∷ 7 ∷ 12 ∷ 8 ∷ 9 ∷ 10 ∷ 11 ∷ [])
      (0 ∷ 1 ∷ 2 ∷ 3 ∷ 4 ∷ 5 ∷ 6 ∷ 7 ∷ 9 ∷ 10 ∷ 11 ∷ 12 ∷ 8 ∷ [])
      refl refl

  -- 1, then the rest
  pub model_answered : {labels rest r : Checked} → labels ≡ one m.labels → rest ≡ weighted_checked m weights → r ≡ or_next_of labels rest → r ≡ model_checked m weights
  unfolding weighted_checked model_checked or_next_of
  model_answered a b c =
      c
      ∙ rw (a, b)
      (as_rows (one m.labels) (weighted_limits m weights) (model_counts m) (weighted_rooms m weights) (weighted_tests m weights) same_rooms)
