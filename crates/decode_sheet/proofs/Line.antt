-- The line of a decoded path: its sum is a number, it has one label for each word, and it fits the longest line's room. Assumes nothing.
use mathlib.Core.Path.{◌≡◌}
use mathlib.Core.Bool.{not}
use mathlib.Core.List.{List, ◌++◌}
use Prim.Native.Nat.{ℕ, ◌-◌, ◌≤◌, ◌<◌}
use native.Mathlib.Omega.{arith}
use lib.Dec.{T}
use lib.ListN.{length, take}
use lib.Seq.{take_at}
use lib.Ieee.{Float, is_nan}
use Rattle.best_path.specs.Scores.{Scores, tabled}
use Rattle.best_path.specs.Decoded.{last_label, decoded_path, decoded_sum}
use Rattle.best_path.proofs.Paths.{decoded_length, decoded_allowed, last_label_within}
use Rattle.best_path.proofs.Best.{best_number}
use Rattle.score_tables.specs.Sound.{SoundScores}
use Rattle.byte_buffers.specs.Stored.{Written, RoomFor}
use Rattle.answer_line.specs.Line.{path_line_of, path_room}
use Rattle.answer_line.proofs.Longest.{longest}

module _ {labels words : ℕ} {transitions states : List Float} (sound : SoundScores labels words transitions states) where
  abbrev scores : Scores
  scores = tabled labels transitions states

  -- "A sum is never NaN"
  pub sum_number : T (not (is_nan (decoded_sum scores words)))
  unfolding decoded_sum
  sum_number =
      let l = sound.sized.labels_in.low in
      let w = sound.sized.words_in_lem.low in
      best_number scores words l sound.finite (words - 1) (last_label scores words) (omega arith) (last_label_within scores l words)

  pub path_length : length (decoded_path scores words) ≡ words
  path_length = decoded_length scores words sound.sized.words_in_lem.low

  -- the path at the front of its buffer
  pub path_read : (rest : List ℕ) {after : List ℕ} → after ≡ decoded_path scores words ++ rest → take words after ≡ decoded_path scores words
  path_read rest e = rw e (take_at (decoded_path scores words) rest words path_length)

  pub line_room : (x : Float) (line : List ℕ) → path_room ≤ length line → RoomFor (path_line_of x (decoded_path scores words)) line 0
  line_room x line h =
      let a = decoded_allowed scores sound.sized.labels_in.low words sound.sized.words_in_lem.low in
      let high = sound.sized.labels_in.high in
      let l = longest.path x (decoded_path scores words) (rw path_length sound.sized.words_in_lem.high) (λ i b. let p = a.labels i (rw path_length at b) in omega arith) in
      record { room = omega arith }

  -- what is written of it, by the path and the sum at hand
  module _ {path : List ℕ} {sum : Float} (path_is : path ≡ decoded_path scores words) (sum_is_lem : sum ≡ decoded_sum scores words) where
    pub line_needs : (line : List ℕ) → path_room ≤ length line → T (not (is_nan sum)) × ((0 < length path) × RoomFor (path_line_of sum path) line 0)
    line_needs line h = rw (path_is, sum_is_lem) (sum_number, (rw path_length sound.sized.words_in_lem.low, line_room _ line h))

    pub line_written : {before after : List ℕ} {n : ℕ} → Written (path_line_of sum path) before n after → Written (path_line_of (decoded_sum scores words) (decoded_path scores words)) before n after
    line_written w = rw (path_is, sum_is_lem) at w
