-- What counting the features of a line answers, in plain terms: of whatever satisfies the promise, each number exactly when document 01 gives it, and counted exactly when none is given. The proof is in proofs/Meant.
use Rattle.std.specs.Prelude.{◌≡◌, List, ◌++◌, Float}
use Rattle.refusals.specs.Meaning.{FirstBad}
use Rattle.refusals.specs.Refusals.{numbered}
use Rattle.fronts.specs.Finite.{FiniteTo, NotFinite}
use Rattle.refusals.specs.Said.{accepted, refused, said_of}
use Rattle.feature_gen.specs.Rows.{id_tests}
use Rattle.line_check.specs.Rows.{counting_counts, counting_rooms, line_starts, label_tests, value_tests}
use Rattle.finished.specs.Answers.{Answers}
use Rattle.extract_features.specs.Promise.{Given, Outcome, needed, counts_of_line, counting_of, Promised}

abbrev pub CountingMeans : Type 0
CountingMeans =
    (given : Given) (before : List Float) (outcome : Outcome) → Promised given before outcome →
    Answers given.model.labels given.words (counting_counts (counting_of given before)) (counting_rooms (counting_of given before))
    (line_starts given.model given.words given.line.starts given.line.size)
    (id_tests given.model ++ label_tests (counting_of given before))
    (value_tests given.line)
    (λ number place. said_of outcome.answer ≡ refused (numbered number place)) (said_of outcome.answer ≡ accepted tt)
    -- "counts: feature id"
    (FirstBad (NotFinite (counts_of_line given)) (needed given)) (FiniteTo (counts_of_line given) (needed given))
