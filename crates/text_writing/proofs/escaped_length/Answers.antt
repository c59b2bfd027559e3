-- `text_writing::escaped_length` meets its contract. Assumes nothing.
use mathlib.Core.Path.{sym, ap, ◌∙◌}
use native.Mathlib.Omega.{arith}
use lib.ListN.{length}
use Rattle.pieces.proofs.Parts.{slice_lent}
use Rattle.text_writing.proofs.Laws.{name_special, name_plain, name_over}
use Rattle.text_writing.proofs.escaped_length.Goals.{then-needs_slash, else-needs_slash}
use Rattle.text_writing.proofs.escaped_length.Goals as goal

pub loop-b-preserved : goal.loop-b-preserved
loop-b-preserved c =
    elim c.if-needs_slash.branch [
      | then-needs_slash w ↦
          let l = ap length (name_special _ _ c.loop-b-test.true (sym c.needs_slash.ensures ∙ w.if-needs_slash.true)) in
          (omega (arith, l, w.count-is, c.loop-b.invariant.0), omega (arith, w.count-is, c.loop-b.invariant.1))
      | else-needs_slash w ↦
          let l = ap length (name_plain _ _ c.loop-b-test.true (sym c.needs_slash.ensures ∙ w.if-needs_slash.false)) in
          (omega (arith, l, w.count-is, c.loop-b.invariant.0), omega (arith, w.count-is, c.loop-b.invariant.1))
    ]

pub returns-clause-value : goal.returns-clause-value
returns-clause-value c =
    let l = ap length (name_over _ _ c.loop-b-test.false) in
    rw slice_lent (omega (arith, l, c.loop-b.invariant.0))
