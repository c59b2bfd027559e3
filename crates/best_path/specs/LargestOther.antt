-- What the rival of specs/Lead stands for, said as a property: "the largest final score at any other last label". The proof that the rival has it is in proofs/Rival.
use Rattle.std.specs.Prelude.{◌≡◌, ◌≢◌, ℕ, ◌-◌, ◌<◌, T, Float}
use Rattle.std.specs.Float.Ieee.{le}
use Rattle.best_path.specs.Scores.{Scores, AllFinite}
use Rattle.best_path.specs.Decoded.{best, last_label}
use Rattle.best_path.specs.Lead.{rival}

pub record LargestOther (s : Scores) (words : ℕ) (x : Float) : Type 0 where
  pub label : ℕ
  pub below : label < s.labels
  pub other : label ≢ last_label s words
  pub score : x ≡ best s (words - 1) label
  pub largest : (l : ℕ) → l < s.labels → l ≢ last_label s words → T (le (best s (words - 1) l) x)

abbrev pub RivalIsLargestOther : Type 0
RivalIsLargestOther = (s : Scores) (words : ℕ) → 1 < s.labels → 0 < words → AllFinite s words → LargestOther s words (rival s words)
