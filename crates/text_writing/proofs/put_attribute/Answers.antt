-- `text_writing::put_attribute` meets its contract. Assumes nothing.
use mathlib.Core.List.{[], ◌∷◌}
use Rattle.byte_buffers.proofs.Laws.{put_as}
use Rattle.byte_buffers.proofs.Onto.{onto_starts, onto_put, onto_last}
use Rattle.text_writing.proofs.Laws.{name_as}
use Rattle.text_writing.proofs.put_attribute.Goals as goal

pub returns : goal.returns
returns c =
    let g = onto_put (9 ∷ []) _ c.put_byte-tab.ensures (onto_starts c.requires.room_for) in
    let h = onto_put _ _ (put_as (name_as _ c.at-id.ensures) c.put_name-name.ensures) g in
    onto_last _ c.put_scale.ensures h
