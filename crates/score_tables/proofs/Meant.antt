-- The rows of the score tables mean what `Meaning` says. Assumes nothing.
use Rattle.std.specs.Prelude.{Ok}
use mathlib.Core.Path.{◌≡◌}
use mathlib.Core.List.{List}
use mathlib.Core.Logic.{◌↔◌, inl, inr}
use Prim.Native.Nat.{ℕ, ◌+◌, ◌*◌, ◌/◌, ◌%◌, ◌<◌, ◌≤◌}
use native.Mathlib.Nat.{div-add-mod', div-lt_iff_lt-mul, mod-lt}
use borrow.Author.Tests.{ltb-false, le-ltb}
use lib.Dec.{T}
use lib.ListN.{length, get_or}
use lib.Ieee.{Float, nan}
use lib.Ieee.Scale.{finite}
use Rattle.refusals.specs.Tables.{numbers_checked}
use Rattle.refusals.specs.Meaning.{FirstRefused}
use Rattle.refusals.proofs.Laws.{passes}
use Rattle.refusals.proofs.Meant.{numbers_mean, numbers_finite}
use Rattle.best_path.specs.Scores.{AllFinite, tabled}
use Rattle.refusals.specs.Bounds.{the_labels, the_line_words, most}
use Rattle.score_tables.specs.Rows.{path_short, sixes}
use Rattle.score_tables.specs.Meaning.{Row, OneMeans, FourMeans, TwoMeans, SixAt, in_transitions, in_states}
use Rattle.fronts.specs.Finite.{FiniteTo}
use Rattle.score_tables.proofs.Laws.{true_holds, within, labels_in, words_in_lem, room}
use Rattle.score_tables.proofs.Order.{row, Never, not_table, why}

pub one_means : OneMeans
one_means labels = row 1 _ labels_in (λ l. rw (le-ltb labels 1 l.low, le-ltb (most the_labels) labels l.high))

pub four_means : FourMeans
four_means words = row 4 _ words_in_lem (λ w. rw (le-ltb words 1 w.low, le-ltb (most the_line_words) words w.high))

pub two_means : TwoMeans
two_means labels words transitions states =
    row 2 _ room (λ r. rw (le-ltb (length transitions) (labels * labels) r.long_transitions, le-ltb (length states) (words * labels) r.long_states))

pub short_means : (count : ℕ) (path : List ℕ) → Row (path_short count path) 2 (count ≤ length path)
short_means count path = row 2 _ (λ h. ltb-false (length path) count (passes 2 0 _ h)) (λ l. le-ltb (length path) count l)

-- one table of numbers
module _ (numbers : List Float) (n : ℕ) where
  pub finite_to : numbers_checked numbers n ≡ Ok tt → FiniteTo numbers n
  finite_to h i b = true_holds (numbers_finite numbers n h i b)

  pub to_finite : FiniteTo numbers n → numbers_checked numbers n ≡ Ok tt
  to_finite f = (numbers_mean numbers n).accepted.1 (λ i b e. rw e at (f i b))

-- a table row by row, and entry by entry
flat : (numbers : List Float) (rows width : ℕ) → 0 < width →
    ((row column : ℕ) → row < rows → column < width → T (finite (get_or numbers (row * width + column) nan))) → FiniteTo numbers (rows * width)
flat numbers rows width pos f i b =
    rw div-add-mod' at (f (i / width) (i % width) ((div-lt_iff_lt-mul pos).1 b) (mod-lt i pos))

module _ (labels words : ℕ) (transitions states : List Float) where
  pub not_six : (k : ℕ) → (6 ≡ k → ⊥) → Never k (sixes labels words transitions states)
  not_six k d = (not_table (numbers_mean transitions (labels * labels)) d, (not_table (numbers_mean states (words * labels)) d, tt))

  pub six_means : (place : ℕ) → FirstRefused (why 6 place) (sixes labels words transitions states) ↔ SixAt labels words transitions states place
  six_means place = (to, from)
    where
      to : FirstRefused (why 6 place) (sixes labels words transitions states) → SixAt labels words transitions states place
      to (inl e) = in_transitions (((numbers_mean transitions _).refused place).0 e)
      to (inr (t, inl e)) = in_states (finite_to transitions _ t) (((numbers_mean states _).refused place).0 e)
      to (inr (t, inr (s, h))) = absurd h

      from : SixAt labels words transitions states place → FirstRefused (why 6 place) (sixes labels words transitions states)
      from (in_transitions f) = inl (((numbers_mean transitions _).refused place).1 f)
      from (in_states t f) = inr (to_finite transitions _ t, inl (((numbers_mean states _).refused place).1 f))

-- tables whose entries are finite, read as rows of scores, and the other way round
module _ (labels words : ℕ) (transitions states : List Float) where
  pub tables_finite : FiniteTo transitions (labels * labels) × FiniteTo states (words * labels) → AllFinite (tabled labels transitions states) words
  tables_finite f = record {
    states = λ word label w l. f.1 _ (within words labels word label w l);
    transitions = λ previous label p l. f.0 _ (within labels labels previous label p l);
  }

  pub finite_tables : 1 ≤ labels → AllFinite (tabled labels transitions states) words → FiniteTo transitions (labels * labels) × FiniteTo states (words * labels)
  finite_tables l f = (flat transitions labels labels l f.transitions, flat states words labels l f.states)
