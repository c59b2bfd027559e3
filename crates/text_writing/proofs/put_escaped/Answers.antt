-- `text_writing::put_escaped` meets its contract. Assumes nothing.
use mathlib.Core.Path.{sym, ◌∙◌}
use Rattle.byte_buffers.proofs.Onto.{onto_as, onto_room, onto_byte, onto_two, onto_over}
use Rattle.pieces.proofs.Parts.{slice_lent}
use Rattle.text_writing.proofs.Laws.{name_special, name_plain, name_over}
use Rattle.text_writing.proofs.put_escaped.Goals.{then-needs_slash, else-needs_slash}
use Rattle.text_writing.proofs.put_escaped.Goals as goal

pub bounds-text-k : goal.bounds-text-k
bounds-text-k c = onto_room (onto_as (name_special _ _ c.loop-b-test.true (sym c.needs_slash.ensures ∙ c.if-needs_slash.true)) c.loop-b.invariant)

pub bounds-text-k-then-needs_slash : goal.bounds-text-k-then-needs_slash
bounds-text-k-then-needs_slash c = onto_room (onto_byte (onto_as (name_special _ _ c.loop-b-test.true (sym c.needs_slash.ensures ∙ c.if-needs_slash.true)) c.loop-b.invariant))

pub bounds-text-k-else-needs_slash : goal.bounds-text-k-else-needs_slash
bounds-text-k-else-needs_slash c = onto_room (onto_as (name_plain _ _ c.loop-b-test.true (sym c.needs_slash.ensures ∙ c.if-needs_slash.false)) c.loop-b.invariant)

pub loop-b-preserved : goal.loop-b-preserved
loop-b-preserved c =
    elim c.if-needs_slash.branch [
      | then-needs_slash w ↦
          rw (w.k-is, w.text-is) (onto_two (onto_as (name_special _ _ c.loop-b-test.true (sym c.needs_slash.ensures ∙ w.if-needs_slash.true)) c.loop-b.invariant))
      | else-needs_slash w ↦
          rw (w.k-is, w.text-is) (onto_byte (onto_as (name_plain _ _ c.loop-b-test.true (sym c.needs_slash.ensures ∙ w.if-needs_slash.false)) c.loop-b.invariant))
    ]

pub returns : goal.returns
returns c = rw slice_lent (onto_over (onto_as (name_over _ _ c.loop-b-test.false) c.loop-b.invariant))
