-- `sequence_score::score_path` meets its contract. The loop's invariant: the score is that of the words passed, and the label before is theirs. Assumes nothing.
use mathlib.Core.Path.{◌≡◌}
use Prim.Native.Nat.{◌-◌}
use Rattle.best_path.specs.Scores.{tabled, label_at}
use Rattle.best_path.specs.PathScore.{path_score}
use Rattle.sequence_score.proofs.score_path.Given as goal

abbrev pub invariant-loop-word : goal.invariant-loop-word
invariant-loop-word l = (l.before ≡ label_at l.path (l.word - 1)) × (l.score ≡ path_score (tabled l.labels l.transitions l.states) l.path l.word)
