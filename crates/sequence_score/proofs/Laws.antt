-- The laws of `path_score` that its loop leans on, and what the rows give a call that accepts. Assumes nothing.
use Rattle.std.specs.Prelude.{Ok}
use mathlib.Core.Path.{◌≡◌, refl}
use mathlib.Core.List.{List, ◌∷◌, ◌++◌}
use Prim.Native.Nat.{ℕ, zero, suc, ◌+◌, ◌-◌, ◌*◌, ◌<◌, ◌≤◌}
use native.Mathlib.Nat.{le_trans, lt_of_lt_of_le, mul-le-mul_right}
use native.Mathlib.Numerals.{add-one}
use native.Mathlib.Omega.{arith}
use borrow.Author.Tests.{ltb-false}
use lib.ListN.{length}
use lib.Ieee.{Float, binary64, add, of_bits}
use Rattle.refusals.specs.Refusals.{Checked}
use Rattle.refusals.proofs.Laws.{all_accepted, passes}
use Rattle.refusals.proofs.Meant.{ids_below}
use Rattle.best_path.specs.Scores.{Scores, label_at}
use Rattle.best_path.specs.PathScore.{path_score}
use Rattle.score_tables.specs.Rows.{sixes}
use Rattle.score_tables.specs.Sound.{ScoresRoom}
use Rattle.score_tables.proofs.Laws.{within, room, sized, all_finite}
use Rattle.sequence_score.specs.Rows.{sizes, five, path_sized, path_checked}
use Rattle.sequence_score.specs.Sound.{SoundPath, Met}

-- no word
pub none : (s : Scores) (path : List ℕ) (count : ℕ) → count ≡ 0 → of_bits binary64 0 ≡ path_score s path count
unfolding path_score of_bits
none s path count h = rw h

-- the first
pub one_word : (s : Scores) (path : List ℕ) → add binary64 (of_bits binary64 0) (s.state 0 (label_at path 0)) ≡ path_score s path 1
unfolding path_score of_bits
one_word s path = refl

-- one word more
pub one_more : (s : Scores) (path : List ℕ) (word : ℕ) → 0 < word →
    {before next : ℕ} {score state transition : Float} →
    before ≡ label_at path (word - 1) → next ≡ label_at path word →
    score ≡ path_score s path word → state ≡ s.state word next → transition ≡ s.transition before next →
    add binary64 (add binary64 score state) transition ≡ path_score s path (word + 1)
unfolding path_score
one_more s path zero h b n p q r = absurd (omega arith)
one_more s path (suc word) h b n p q r = let e : suc word - 1 ≡ word = omega arith in rw (p, q, r, b, n, add-one, e)

-- a row of a word or a label, and a label, are within the table
module _ {labels : ℕ} {transitions states : List Float} {path : List ℕ} {count : ℕ} (met : Met labels transitions states path count) where
  pub state_within : (word label : ℕ) → word < count → label < labels → word * labels + label < length states
  state_within word label w l = lt_of_lt_of_le (within count labels word label w l) met.long_states

  pub transition_within : (before label : ℕ) → before < labels → label < labels → before * labels + label < length transitions
  transition_within before label b l = lt_of_lt_of_le (within labels labels before label b l) met.long_transitions

module _ (labels words : ℕ) (transitions states : List Float) (path : List ℕ) (count : ℕ) where
  abbrev rows : List Checked
  rows = sizes labels words transitions states path count

  -- 1, 4 and 2 accept: there is room in the path
  pub path_room : path_sized labels words transitions states path count ≡ Ok tt → count ≤ length path
  unfolding path_sized
  path_room h =
      let a = (all_accepted (Ok tt) rows h).1 in
      ltb-false (length path) count (passes 2 0 _ a.1.1.1.1.0)

  -- and in the tables
  pub tables_room : path_sized labels words transitions states path count ≡ Ok tt → ScoresRoom labels words transitions states
  unfolding path_sized
  tables_room h =
      let a = (all_accepted (Ok tt) rows h).1 in
      room a.1.1.1.0

  -- all accept
  pub sound : path_checked labels words transitions states path count ≡ Ok tt → SoundPath labels words transitions states path count
  unfolding path_checked
  sound h =
      let a = (all_accepted (Ok tt) (rows ++ (five labels path count ∷ sixes labels words transitions states)) h).1 in
      let z = a.1.1.1.1.1 in
      record {
        sized_path = record {
          sized = sized a.0 a.1.0 a.1.1.1.0;
          not_longer = ltb-false words count (passes 4 0 _ a.1.1.0);
          long_path = ltb-false (length path) count (passes 2 0 _ a.1.1.1.1.0);
        };
        below = ids_below path count labels z.0;
        finite = all_finite labels words transitions states z.1.0 z.1.1.0;
      }

  -- so every entry that the path meets is within its table
  pub met : path_checked labels words transitions states path count ≡ Ok tt → Met labels transitions states path count
  met h =
      let s = sound h in
      let p = s.sized_path in
      record {
        long_path = p.long_path;
        long_states = le_trans (mul-le-mul_right labels p.not_longer) p.sized.room.long_states;
        long_transitions = p.sized.room.long_transitions;
        below = s.below;
      }
