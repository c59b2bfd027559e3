-- `text_writing::put_sequences` meets its contract. Assumes nothing.
use Rattle.text_tables.specs.Written.{Unwritten}
use Rattle.text_writing.specs.Ready.{strings, lent_tables}
use Rattle.byte_buffers.proofs.Laws.{put_as}
use Rattle.byte_buffers.proofs.Onto.{onto_as, onto_part, onto_put, onto_over}
use Rattle.text_writing.proofs.Laws.{room_as, each_list, each_over, sequence_next}
use Rattle.text_writing.proofs.put_sequences.Goals.{Start}
use Rattle.text_writing.proofs.put_sequences.Goals as goal

-- what is lent
abbrev tables : Start → Unwritten
tables c = lent_tables c.args.instances c.args.lines.now c.args.begins.now c.args.ids.now c.args.references.now (strings c.args.label_starts.now c.args.labels.now) (strings c.args.name_starts.now c.args.names.now) (strings c.args.scale_starts.now c.args.scales.now)

pub put_words-last-requires-clause-room_for : goal.put_words-last-requires-clause-room_for
put_words-last-requires-clause-room_for c =
    let g = onto_as (sequence_next (tables (goal.at.put_words-last-requires-clause-room_for c).Start) c.loop-i.i c.args.instances c.loop-i-test.true) c.loop-i.invariant in
    room_as (each_list _ c.args.lines.now c.loop-i.i c.at-first.ensures c.at-end.ensures) (onto_part _ _ g)

pub end_sequence-k-requires : goal.end_sequence-k-requires
end_sequence-k-requires c =
    let g = onto_as (sequence_next (tables (goal.at.end_sequence-k-requires c).Start) c.loop-i.i c.args.instances c.loop-i-test.true) c.loop-i.invariant in
    onto_part _ _ (onto_put _ _ (put_as (each_list _ c.args.lines.now c.loop-i.i c.at-first.ensures c.at-end.ensures) c.put_words-last.ensures) g)

pub loop-i-preserved : goal.loop-i-preserved
loop-i-preserved c =
    let g = onto_as (sequence_next (tables (goal.at.loop-i-preserved c).Start) c.loop-i.i c.args.instances c.loop-i-test.true) c.loop-i.invariant in
    onto_put _ _ c.end_sequence-k.ensures (onto_put _ _ (put_as (each_list _ c.args.lines.now c.loop-i.i c.at-first.ensures c.at-end.ensures) c.put_words-last.ensures) g)

pub returns : goal.returns
returns c =
    onto_over (onto_as (each_over _ _ _ c.loop-i-test.false) c.loop-i.invariant)
