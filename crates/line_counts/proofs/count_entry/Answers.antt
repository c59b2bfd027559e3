-- `line_counts::count_entry` meets its contract: noted and, where the notes are full, added, the entry has counted. Assumes nothing.
use Prim.Native.Nat.{zero-le}
use mathlib.Core.Path.{◌≡◌, sym, ◌∙◌}
use mathlib.Core.List.{[]}
use native.Mathlib.Omega.{arith}
use lib.Dec.{eqb}
use lib.ListN.{get_or}
use Rattle.lines.specs.Counted.{state_count}
use Rattle.lines.specs.Lent.{bare, with_counts}
use Rattle.line_counts.specs.Noted.{notes_added, Notes}
use Rattle.line_counts.proofs.Notes.{settled_none, still_notes, entry_noted}
use Rattle.line_counts.proofs.count_entry.Goals.{After-note-next}
use Rattle.line_counts.proofs.count_entry.Goals as goal

-- what is noted then
noted : (c : After-note-next) → Notes c.args.features c.note-next.new.who c.note-next.new.what c.note-next.result
noted c =
    let p = c.requires in
    still_notes _ _ (eqb (get_or c.args.destinations.now (get_or c.args.entries.now c.args.e 0) 0) c.args.label) p.notes p.noted_in_bounds p.e_bound c.note-next.ensures.who_after c.note-next.ensures.what_after c.note-next.ensures.value

-- and what the counts are once that is added
counted : (c : After-note-next) → notes_added c.args.kinds.now c.note-next.new.who c.note-next.new.what c.note-next.result c.args.counts.now ≡ state_count (with_counts bare c.args.features c.args.kinds.now c.args.destinations.now [] 0 [] c.args.entries.now 0 [] []) c.args.label c.args.value c.args.e (notes_added c.args.kinds.now c.args.who.now c.args.what.now c.args.noted c.args.counts.now)
counted c =
    let p = c.requires in
    entry_noted _ _ _ _ _ _ _ _ p.noted_in_bounds (omega (arith, p.noted_in_bounds, p.notes.level)) c.note-next.ensures.who_after c.note-next.ensures.what_after c.note-next.ensures.value

pub returns-then-next-who : goal.returns-then-next-who
returns-then-next-who c =
    record { notes_2 = noted (goal.at.returns-then-next-who c).After-note-next; upper_bound = c.if-next-who.true; counts_value = counted (goal.at.returns-then-next-who c).After-note-next }

pub returns : goal.returns
returns c =
    let n = noted (goal.at.returns c).After-note-next in
    record {
      notes_2 = record { there = zero-le; level = n.level; ids = λ j l. omega (arith, l) };
      upper_bound = omega arith;
      counts_value = sym (settled_none _ _ _ _) ∙ c.add_notes.ensures ∙ counted (goal.at.returns c).After-note-next;
    }
