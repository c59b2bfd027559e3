-- The rows of labelling a line are its bounds, then the sooner of three parts; and an accepted line can be scored into buffers that have room for every line. Assumes nothing.
use Rattle.std.specs.Prelude.{Ok}
use mathlib.Core.Path.{◌≡◌}
use mathlib.Core.List.{List, [], ◌∷◌, ◌++◌}
use Prim.Native.Nat.{ℕ, ◌≤◌}
use native.Mathlib.Nat.{mul-le-mul}
use Rattle.refusals.specs.Refusals.{Checked, refuse, or_next_of, sooner}
use Rattle.refusals.specs.Tables.{short}
use Rattle.score_tables.specs.Rows.{bounds_checked}
use Rattle.refusal_rows.specs.Limits.{Limit, room, AllWithin}
use Rattle.refusal_rows.specs.Parts.{part_checked}
use Rattle.refusal_rows.proofs.Means.{within_parts, within_both}
use Rattle.feature_gen.specs.Rows.{weighted_rooms}
use Rattle.feature_gen.specs.Parts.{weighted_checked}
use Rattle.line_check.specs.Rows.{Scoring, line_rooms, score_rooms, scoring_checked}
use Rattle.line_check.specs.Parts.{line_checked}
use Rattle.line_check.proofs.Laws.{weighted_line}
use Rattle.line_check.proofs.Meant.{scoring_means}
use Rattle.compute_scores.specs.Promise.{Given}
use Rattle.label_line.specs.Rows.{label_checked}
use Rattle.label_line.proofs.Meant.{checks_mean}

module _ (given : Given) (path : ℕ) where
  -- the path's room
  abbrev own_room : List Limit
  own_room = room path given.words ∷ []

  -- as the code goes
  pub in_order : {bounds model line tables lent rest answer : Checked} → bounds ≡ bounds_checked given.model.labels given.words →
      model ≡ weighted_checked given.model given.weights → line ≡ line_checked given.words given.line → tables ≡ sooner model line →
      lent ≡ refuse 2 0 (short path given.words) → rest ≡ sooner tables lent → answer ≡ or_next_of bounds rest → answer ≡ label_checked given path
  unfolding part_checked label_checked or_next_of
  in_order a b c d e f g = weighted_line given.model given.weights given.words given.line own_room a b c d e f g

  -- scoring into the call's own arrays
  abbrev pub own : Scoring
  own = record {
    model = given.model;
    weights = given.weights;
    words = given.words;
    line = given.line;
    transitions = 1024;
    states = 4096;
  }

  abbrev tables : List Limit
  tables = weighted_rooms given.model given.weights ++ line_rooms given.words given.line

  abbrev scores : List Limit
  scores = score_rooms given.model.labels given.words 1024 4096

  -- an accepted line can be scored, since within the bounds the arrays have room, and the path has room
  pub accepts : label_checked given path ≡ Ok tt → (scoring_checked own ≡ Ok tt) × (given.words ≤ path)
  accepts h =
      let a = (checks_mean given path).accepted.0 h in
      let l = a.0 in
      let w = a.1.0 in
      let f = a.1.1.0 in
      let p = within_parts tables own_room f.1 in
      let s : AllWithin scores = (mul-le-mul l.high l.high, (mul-le-mul w.high l.high, tt)) in
      ((scoring_means own).accepted.1 (l, (w, ((f.0, within_both tables scores p.0 s), a.1.1.1))), p.1.0)
