-- `prediction::predict_within` meets its contract: the arrays have room for the line. Assumes nothing.
use Rattle.std.proofs.lemmas.List.{length-replicate}
use lib.Seq.{length-take-le}
use Rattle.prediction.proofs.predict_within.Goals as goal

pub predict_in-requires-clause-transitions_len : goal.predict_in-requires-clause-transitions_len
predict_in-requires-clause-transitions_len g c =
    let room = c.requires.labels_bound in (
      length-take-le _ _ (simp length-replicate room.0),
      length-take-le _ _ (simp length-replicate room.1),
    )
