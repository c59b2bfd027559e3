-- `survey::with_name` meets its contract. Assumes nothing.
use Rattle.survey.proofs.Named.{name_tabled, name_more, name_full}
use Rattle.survey.proofs.with_name.Goals as goal

pub learn-id-requires : goal.learn-id-requires
learn-id-requires c =
    let a = c.requires in
    record { tabled = (name_tabled a.knows c.if-known-positions.true a.room a.slots_few, (a.name, a.stands)); count_in_bounds = (c.if-known-positions.true, a.small) }

pub returns-then-known-positions : goal.returns-then-known-positions
returns-then-known-positions c =
    λ before name k g. name_more k g c.if-known-positions.true c.learn-id.ensures c.with_id.ensures

pub returns : goal.returns
returns c = λ before name k g. name_full name k c.if-known-positions.false
