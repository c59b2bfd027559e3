-- `prediction::predict` meets its contract. Assumes nothing.
use Rattle.labelling.proofs.Laws.{few_transitions, few_states, small_is}
use Rattle.prediction.proofs.predict.Goals as goal

pub is_small-requires : goal.is_small-requires
is_small-requires c = (c.requires.sound_model.labels_in, c.requires.sound_instance.sized)

pub predict_within-requires-clause-labels_bound : goal.predict_within-requires-clause-labels_bound
predict_within-requires-clause-labels_bound c = small_is _ _ c.is_small.ensures c.if-is_small.true

pub predict_within-requires-else-is_small-clause-labels_bound : goal.predict_within-requires-else-is_small-clause-labels_bound
predict_within-requires-else-is_small-clause-labels_bound c =
    let labels = c.requires.sound_model.labels_in in
    (few_transitions labels, few_states labels c.requires.sound_instance.sized)
