-- `survey::with_label` meets its contract. Assumes nothing.
use Rattle.survey.proofs.Named.{label_more, label_full}
use Rattle.survey.proofs.with_label.Goals as goal

pub returns-then-known-labels : goal.returns-then-known-labels
returns-then-known-labels c =
    λ before name k g. label_more k g c.if-known-labels.true c.learn_label-id.ensures c.with_id.ensures

pub returns : goal.returns
returns c = λ before name k g. label_full name k c.if-known-labels.false
