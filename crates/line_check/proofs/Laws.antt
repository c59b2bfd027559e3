-- What the sizes give a call on a line that accepts them, and the parts that a call is checked in. Assumes nothing.
use Rattle.std.specs.Prelude.{Ok}
use mathlib.Core.Path.{◌≡◌, refl, sym, ◌∙◌, ap}
use mathlib.Core.Bool.{Bool, ◌||◌}
use mathlib.Core.List.{List, [], ◌∷◌, ◌++◌}
use Prim.Native.Nat.{ℕ, ◌≤◌}
use native.Mathlib.Omega.{arith}
use lib.ListN.{length}
use lib.Ieee.{Float}
use Rattle.refusals.specs.Refusals.{Checked, or_next_of, sooner, first_from, refuse}
use Rattle.refusals.specs.Tables.{short}
use Rattle.refusals.specs.Bounds.{the_attributes, most, reference_table}
use Rattle.score_tables.specs.Rows.{bounds_checked}
use Rattle.refusal_rows.specs.Limits.{Limit, count, room, any_broken, two, AllWithin, Fitting}
use Rattle.refusal_rows.specs.Tests.{ids_below, checks}
use Rattle.refusal_rows.specs.Parts.{part_checked}
use Rattle.refusal_rows.proofs.Means.{broken_parts, within_parts}
use Rattle.refusal_rows.proofs.Parts.{ordered, joined, same_limits, as_rows, part_within}
use Rattle.lines.specs.Tables.{Model, Words}
use Rattle.feature_gen.specs.Rows.{model_counts, model_rooms, weighted_rooms, id_tests, weight_tests}
use Rattle.feature_gen.specs.Parts.{table_limits, table_tests, weighted_limits, weighted_tests, tables_checked, weighted_checked}
use Rattle.feature_gen.proofs.Laws.{sized, room_for_weights}
use Rattle.line_check.specs.Rows.{Scoring, Counting, line_counts, line_rooms, score_rooms, scoring_counts, scoring_rooms, count_rooms, counting_counts, counting_rooms, line_starts, label_tests, value_tests, scoring_checked, counting_checked}
use Rattle.line_check.specs.Parts.{line_limits, line_tests, line_sized, line_checked, labels_checked}
use Rattle.line_check.specs.Sound.{LineSized, ScoringFits, CountingFits}

pub line_sized_lem : (words : ℕ) (line : Words) → line.size ≤ most the_attributes → AllWithin (line_rooms words line) → LineSized words line
line_sized_lem words line few w = record {
  few_attributes = few;
  starts = omega (arith, w.0);
  ids = w.1.0;
  values = w.1.1.0;
}

-- ---- a line

module _ (words : ℕ) (line : Words) where
  pub line_room : {sizes : Checked} → sizes ≡ line_sized words line → sizes ≡ Ok tt → LineSized words line
  unfolding line_sized
  line_room e h =
      let w = part_within (line_limits words line) (line_tests words line) e h in
      line_sized_lem words line w.0 w.1

-- ---- a label for each word

module _ (labels words : ℕ) (path : List ℕ) where
  abbrev path_room : List Limit
  path_room = room (length path) words ∷ []

  pub labels_room : {sizes : Checked} → sizes ≡ refuse 2 0 (short (length path) words) → sizes ≡ Ok tt → words ≤ length path
  labels_room e h = (part_within path_room (ids_below reference_table path words labels ∷ []) e h).0

-- ---- a line under a model with weights, and buffers that a call tests behind them

module _ (m : Model) (weights : List Float) (words : ℕ) (line : Words) (buffers : List Limit) where
  abbrev limits : List Limit
  limits = weighted_limits m weights ++ line_limits words line

  abbrev rooms : List Limit
  rooms = weighted_rooms m weights ++ line_rooms words line

  same_front : any_broken limits ≡ any_broken (line_counts m line ++ rooms)
  same_front =
      same_limits limits (line_counts m line ++ rooms)
      (0 ∷ 1 ∷ 2 ∷ 3 ∷ 4 ∷ 13 ∷ 5 ∷ 6 ∷ 7 ∷ 12 ∷ 8 ∷ 9 ∷ 10 ∷ 11 ∷ 14 ∷ 15 ∷ 16 ∷ [])
      (0 ∷ 1 ∷ 2 ∷ 3 ∷ 4 ∷ 6 ∷ 7 ∷ 8 ∷ 10 ∷ 11 ∷ 12 ∷ 13 ∷ 9 ∷ 5 ∷ 14 ∷ 15 ∷ 16 ∷ [])
      refl refl

  same_all : any_broken (limits ++ buffers) ≡ any_broken (line_counts m line ++ (rooms ++ buffers))
  same_all =
      broken_parts limits buffers
      ∙ ap (λ (b : Bool). b || any_broken buffers) same_front
      ∙ sym (broken_parts (line_counts m line ++ rooms) buffers)

  pub weighted_line : {bounds model own tables lent rest r : Checked} → bounds ≡ bounds_checked m.labels words →
      model ≡ weighted_checked m weights → own ≡ line_checked words line → tables ≡ sooner model own →
      lent ≡ part_checked buffers [] → rest ≡ sooner tables lent → r ≡ or_next_of bounds rest →
      r ≡ first_from (bounds_checked m.labels words) (two (line_counts m line) ∷ two (rooms ++ buffers) ∷ checks (line_starts m words line.starts line.size) ++ checks (id_tests m) ++ checks (weight_tests m weights ++ value_tests line))
  unfolding weighted_checked line_checked
  weighted_line a b c d e f g =
      let t = joined (weighted_limits m weights) (line_limits words line) (weighted_tests m weights) (line_tests words line) tt tt tt b c d in
      let tests = ordered (weighted_tests m weights ++ line_tests words line) in
      let all = joined limits buffers tests [] tt tt tt t e f in
      g
      ∙ rw (a, all)
      (as_rows (bounds_checked m.labels words) (limits ++ buffers) (line_counts m line) (rooms ++ buffers) tests same_all)

-- ---- the calls

module _ (s : Scoring) where
  abbrev tables : List Limit
  tables = weighted_rooms s.model s.weights

  abbrev line : List Limit
  line = line_rooms s.words s.line

  abbrev scores : List Limit
  scores = score_rooms s.model.labels s.words s.transitions s.states

  pub scoring_answered : {bounds model own both lent rest r : Checked} → bounds ≡ bounds_checked s.model.labels s.words →
      model ≡ weighted_checked s.model s.weights → own ≡ line_checked s.words s.line → both ≡ sooner model own →
      lent ≡ refuse 2 0 (any_broken scores) → rest ≡ sooner both lent → r ≡ or_next_of bounds rest → r ≡ scoring_checked s
  unfolding part_checked scoring_checked or_next_of
  scoring_answered a b c d e f g = weighted_line s.model s.weights s.words s.line scores a b c d e f g

  pub scoring_within : Fitting (scoring_counts s) (scoring_rooms s) → ScoringFits s
  scoring_within w =
      let n = within_parts (model_counts s.model) (count the_attributes s.line.size ∷ []) w.0 in
      let p = within_parts (tables ++ line) scores w.1 in
      let q = within_parts tables line p.0 in
      let t = room_for_weights s.model s.weights q.0 in
      record {
        model = sized s.model n.0 t.0;
        weights = t.1;
        line = line_sized_lem s.words s.line n.1.0 q.1;
        transitions = p.1.0;
        states = p.1.1.0;
      }

module _ (c : Counting) where
  abbrev model : List Limit
  model = model_rooms c.model

  abbrev words : List Limit
  words = line_rooms c.words c.line

  same_counting : any_broken (table_limits c.model ++ line_limits c.words c.line ++ count_rooms c) ≡ any_broken (counting_counts c ++ counting_rooms c)
  same_counting =
      same_limits (table_limits c.model ++ line_limits c.words c.line ++ count_rooms c) (counting_counts c ++ counting_rooms c)
      (0 ∷ 1 ∷ 2 ∷ 3 ∷ 4 ∷ 12 ∷ 5 ∷ 6 ∷ 7 ∷ 8 ∷ 9 ∷ 10 ∷ 11 ∷ 13 ∷ 14 ∷ 15 ∷ 16 ∷ 17 ∷ [])
      (0 ∷ 1 ∷ 2 ∷ 3 ∷ 4 ∷ 6 ∷ 7 ∷ 8 ∷ 9 ∷ 10 ∷ 11 ∷ 12 ∷ 5 ∷ 13 ∷ 14 ∷ 15 ∷ 16 ∷ 17 ∷ [])
      refl refl

  pub counting_answered : {bounds tables own both path labelled lent rest r : Checked} → bounds ≡ bounds_checked c.model.labels c.words →
      tables ≡ tables_checked c.model → own ≡ line_checked c.words c.line → both ≡ sooner tables own →
      path ≡ labels_checked c.model.labels c.words c.path → labelled ≡ sooner both path →
      lent ≡ refuse 2 0 (short c.features c.model.features.count) → rest ≡ sooner labelled lent → r ≡ or_next_of bounds rest → r ≡ counting_checked c
  unfolding tables_checked line_checked labels_checked part_checked counting_checked or_next_of
  counting_answered a b d e f g h i j =
      let own = line_tests c.words c.line in
      let its = room (length c.path) c.words ∷ [] in
      let lent = room c.features c.model.features.count ∷ [] in
      let t = joined (table_limits c.model) (line_limits c.words c.line) (table_tests c.model) own tt tt tt b d e in
      let u = joined (table_limits c.model ++ line_limits c.words c.line) its (ordered (table_tests c.model ++ own)) (label_tests c) tt tt tt t f g in
      let tests = ordered (ordered (table_tests c.model ++ own) ++ label_tests c) in
      let all = joined (table_limits c.model ++ line_limits c.words c.line ++ its) lent tests [] tt tt tt u h i in
      j
      ∙ rw (a, all)
      (as_rows (bounds_checked c.model.labels c.words) (table_limits c.model ++ line_limits c.words c.line ++ count_rooms c) (counting_counts c) (counting_rooms c) tests same_counting)

  pub counting_within : Fitting (counting_counts c) (counting_rooms c) → CountingFits c
  counting_within w =
      let n = within_parts (model_counts c.model) (count the_attributes c.line.size ∷ []) w.0 in
      let p = within_parts (model ++ words) (count_rooms c) w.1 in
      let q = within_parts model words p.0 in
      record {
        model = sized c.model n.0 q.0;
        line = line_sized_lem c.words c.line n.1.0 q.1;
        path = p.1.0;
        features = p.1.1.0;
      }
