-- `line_counts::count_attribute` meets its contract. The loop's invariant: once the notes are added, the entries before this one have counted. Assumes nothing.
use Rattle.lines.proofs.Laws.{passed_none, passed_next}
use Rattle.line_counts.proofs.count_attribute.Goals as goal

pub loop-e-init : goal.loop-e-init
loop-e-init c =
    let p = c.requires in
    (record { notes = p.notes; free = p.noted_in_bounds }, passed_none _ _ _)

pub loop-e-preserved : goal.loop-e-preserved
loop-e-preserved c =
    let i = c.loop-e.invariant in
    let q = c.count_entry-n.ensures in (
      record { notes = q.notes_2; free = q.upper_bound },
      passed_next i.1 c.loop-e-test.true q.counts_value,
    )
