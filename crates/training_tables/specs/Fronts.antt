-- "A lent buffer may be longer than needed; only the needed front is touched": what the trainers' definitions make of longer tables. The proofs are in proofs/Fronts.
use Rattle.std.specs.Prelude.{◌≡◌, List, ◌++◌, ℕ, length, Float}
use Rattle.training.specs.Rules.{Rule, Learned, Mistake, updated_by, averaged_by}
use Rattle.training_tables.specs.Tables.{Both, Held}

-- the two tables, each with more behind it
abbrev pub longer : Learned → Learned → Learned
longer s rest = record { weights = s.weights ++ rest.weights; beside = s.beside ++ rest.beside }

-- the same mistake, its counts with more behind them
abbrev pub counted : Mistake → List Float → List Float → Mistake
counted k t p = record {
  words = k.words;
  wrong = k.wrong;
  truly = k.truly ++ t;
  predicted = k.predicted ++ p;
  true_score = k.true_score;
  predicted_score = k.predicted_score;
  weight = k.weight;
  counter = k.counter;
}

-- an update in longer tables is the update of their fronts, and what is behind stays
abbrev pub UpdatesFront : Type 0
UpdatesFront =
    (rule : Rule) (features : ℕ) (k : Mistake) (s rest : Learned) (t p : List Float)
    → Held features (length k.truly) (length k.predicted) (length s.weights) (length s.beside)
    → updated_by rule features (counted k t p) (longer s rest)
    ≡ record { learned = longer (updated_by rule features k s).learned rest; loss = (updated_by rule features k s).loss }

-- so is the final averaging that of the weights' front
abbrev pub AveragesFront : Type 0
AveragesFront =
    (rule : Rule) (features : ℕ) (counter : Float) (s rest : Learned)
    → Both features (length s.weights) (length s.beside)
    → averaged_by rule features counter (longer s rest) ≡ averaged_by rule features counter s ++ rest.weights

-- an update keeps the tables' lengths
pub record LengthsKept (before after : Learned) : Type 0 where
  pub weights : length after.weights ≡ length before.weights
  pub beside : length after.beside ≡ length before.beside

abbrev pub UpdatesKeepLengths : Type 0
UpdatesKeepLengths = (rule : Rule) (features : ℕ) (k : Mistake) (s : Learned) → LengthsKept s (updated_by rule features k s).learned
