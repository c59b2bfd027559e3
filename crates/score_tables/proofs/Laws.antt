-- Laws of products, and what the rows of the score tables give a call that accepts them. Assumes nothing.
use Rattle.std.specs.Prelude.{Ok}
use mathlib.Core.Path.{◌≡◌}
use mathlib.Core.Bool.{Bool, true}
use mathlib.Core.List.{List}
use Prim.Native.Nat.{ℕ, ◌+◌, ◌*◌, ◌^◌, ◌<◌}
use native.Mathlib.Nat.{lt_of_le_of_lt, mul-le-mul, mul-le-mul_left, mul-le-mul_right, mul-lt-mul_of_pos_right, le_of_lt}
use native.Mathlib.Omega.{arith}
use borrow.Author.Tests.{ltb-false}
use lib.Pow.{pow_pos}
use lib.Dec.{T, ltb}
use lib.ListN.{length}
use lib.Ieee.{Float}
use Rattle.refusals.specs.Tables.{numbers_checked}
use Rattle.refusals.proofs.Laws.{neither, passes}
use Rattle.refusals.proofs.Meant.{numbers_finite}
use Rattle.best_path.specs.Scores.{AllFinite, tabled}
use Rattle.refusals.specs.Bounds.{the_labels, the_line_words, most}
use Rattle.score_tables.specs.Rows.{one, four, scores_short}
use Rattle.score_tables.specs.Sound.{LabelsIn, WordsIn, ScoresRoom, ScoresSized}

-- a test that is true
pub true_holds : {b : Bool} → b ≡ true → T b
true_holds e = rw e tt

-- an entry of a row is within the table
pub within : (rows width row column : ℕ) → row < rows → column < width → row * width + column < rows * width
within rows width row column r c = omega (arith, mul-le-mul_right width r)

-- 1, 4 and 2 accept: the sizes are in bounds
pub labels_in : {labels : ℕ} → one labels ≡ Ok tt → LabelsIn labels
labels_in {labels} h =
    let o = neither (ltb labels 1) (ltb (most the_labels) labels) (passes 1 0 _ h) in
    record { low = ltb-false labels 1 o.0; high = ltb-false (most the_labels) labels o.1 }

pub words_in_lem : {words : ℕ} → four words ≡ Ok tt → WordsIn words
words_in_lem {words} h =
    let o = neither (ltb words 1) (ltb (most the_line_words) words) (passes 4 0 _ h) in
    record { low = ltb-false words 1 o.0; high = ltb-false (most the_line_words) words o.1 }

module _ {labels words : ℕ} {transitions states : List Float} where
  pub room : scores_short labels words transitions states ≡ Ok tt → ScoresRoom labels words transitions states
  room h =
      let o = neither (ltb (length transitions) (labels * labels)) (ltb (length states) (words * labels)) (passes 2 0 _ h) in
      record {
        long_transitions = ltb-false (length transitions) (labels * labels) o.0;
        long_states = ltb-false (length states) (words * labels) o.1;
      }

  -- what is in bounds and has room is small
  pub sized_of : LabelsIn labels → WordsIn words → ScoresRoom labels words transitions states → ScoresSized labels words transitions states
  sized_of l w r = record {
    labels_in = l;
    words_in_lem = w;
    room = r;
    few_transitions = mul-le-mul l.high l.high;
    few_states = mul-le-mul w.high l.high;
  }

  pub sized : one labels ≡ Ok tt → four words ≡ Ok tt → scores_short labels words transitions states ≡ Ok tt → ScoresSized labels words transitions states
  sized h1 h4 h2 = sized_of (labels_in h1) (words_in_lem h4) (room h2)

-- 6 accepts: every entry within is finite
pub all_finite : (labels words : ℕ) (transitions states : List Float) →
    numbers_checked transitions (labels * labels) ≡ Ok tt →
    numbers_checked states (words * labels) ≡ Ok tt →
    AllFinite (tabled labels transitions states) words
all_finite labels words transitions states a s = record {
  states = λ word label w l. true_holds (numbers_finite states _ s _ (within words labels word label w l));
  transitions = λ previous label p l. true_holds (numbers_finite transitions _ a _ (within labels labels previous label p l));
}
