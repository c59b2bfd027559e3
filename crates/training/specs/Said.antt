-- Document 01's number and values for each case of a trainer's answer: "epochs run, visits and updates". Assumes nothing.
use Rattle.refusals.specs.declared.Refusal.{Refusal}
use Rattle.std.specs.Prelude.{ℕ, Ok, Err, Result}
use Rattle.refusals.specs.Said.{Said, accepted, refused}
use Rattle.training.specs.declared.Trained.{Trained}

abbrev pub trained_with : (epochs visits updates : ℕ) → Said Trained
trained_with epochs visits updates = accepted (record { epochs = epochs; visits = visits; updates = updates })

abbrev pub said : Result Trained Refusal → Said Trained
said (Ok t) = accepted t
said (Err why) = refused why
