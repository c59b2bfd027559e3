-- `survey::survey_text` meets its contract. Assumes nothing.
use Prim.Native.Nat.{◌+◌, ◌-◌}
use lib.ListN.{length}
use Rattle.layout.specs.Layout.{WellFormed}
use Rattle.text_tables.specs.Pieces.{pieces_of}
use Rattle.survey.proofs.Pass.{Going, SameLengths}
use Rattle.survey.proofs.survey_text.Given as goal

abbrev pub invariant-loop-cursor : goal.invariant-loop-cursor
invariant-loop-cursor l =
    SameLengths l.initial.labels l.initial.slots l.initial.positions l.labels l.slots l.positions × ((h : WellFormed l.text) → Going l.text (pieces_of h.lines) l.cursor l.labels l.slots l.positions l.found)

abbrev pub decreases-loop-cursor : goal.decreases-loop-cursor
decreases-loop-cursor l = length l.text + 1 - l.cursor.at
