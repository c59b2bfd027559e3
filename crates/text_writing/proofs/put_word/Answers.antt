-- `text_writing::put_word` meets its contract. Assumes nothing.
use mathlib.Core.Path.{◌≡◌}
use mathlib.Core.List.{[], ◌∷◌, ◌++◌}
use Prim.Native.Nat.{ℕ}
use lib.ListN.{get_or}
use Rattle.lines.specs.Passes.{start, size}
use Rattle.layout.specs.Layout.{Bytes, escaped}
use Rattle.byte_buffers.specs.Stored.{Put}
use Rattle.text_tables.specs.Written.{Unwritten, string_at}
use Rattle.text_writing.specs.Ready.{strings, word_tables, attribute_bytes, word_bytes, each_from}
use Rattle.byte_buffers.proofs.Laws.{put_as}
use Rattle.byte_buffers.proofs.Onto.{Onto, onto_starts, onto_as, onto_part, onto_put, onto_last, onto_whole}
use Rattle.text_writing.proofs.Laws.{room_as, name_as, each_list, word_parts}
use Rattle.text_writing.proofs.put_word.Goals.{Start}
use Rattle.text_writing.proofs.put_word.Goals as goal

-- what is lent
abbrev tables : Start → Unwritten
tables c = word_tables c.args.begins.now c.args.ids.now c.args.references.now (strings c.args.label_starts.now c.args.labels.now) (strings c.args.name_starts.now c.args.names.now) (strings c.args.scale_starts.now c.args.scales.now)

-- the label is written, and the attributes are left
labelled : (s : Start) {label k : ℕ} {after : Bytes} → label ≡ get_or (tables s).references s.args.w 0 → Put (escaped (string_at (tables s).labels label)) s.args.text.now s.args.at k after
    → let t = tables s in Onto (each_from (attribute_bytes t.ids t.names t.scales) (start t.word_starts_of s.args.w) (size t.word_starts_of s.args.w) ++ (10 ∷ [])) (word_bytes t s.args.w) k s.args.at after s.args.text.now
labelled s e p = onto_put _ _ (put_as (name_as _ e) p) (onto_as (word_parts (tables s) s.args.w) (onto_starts s.requires.room_for))

pub put_attributes-last-requires-clause-room_for : goal.put_attributes-last-requires-clause-room_for
put_attributes-last-requires-clause-room_for c =
    let g = labelled (goal.at.put_attributes-last-requires-clause-room_for c).Start c.at-label.ensures c.put_name-name.ensures in
    room_as (each_list _ (tables (goal.at.put_attributes-last-requires-clause-room_for c).Start).word_starts_of c.args.w c.at-first.ensures c.at-end.ensures) (onto_part _ _ g)

pub put_byte-requires : goal.put_byte-requires
put_byte-requires c =
    let g = labelled (goal.at.put_byte-requires c).Start c.at-label.ensures c.put_name-name.ensures in
    onto_whole (onto_put _ _ (put_as (each_list _ (tables (goal.at.put_byte-requires c).Start).word_starts_of c.args.w c.at-first.ensures c.at-end.ensures) c.put_attributes-last.ensures) g)

pub returns : goal.returns
returns c =
    let g = labelled (goal.at.returns c).Start c.at-label.ensures c.put_name-name.ensures in
    onto_last _ c.put_byte.ensures (onto_put _ _ (put_as (each_list _ (tables (goal.at.returns c).Start).word_starts_of c.args.w c.at-first.ensures c.at-end.ensures) c.put_attributes-last.ensures) g)
