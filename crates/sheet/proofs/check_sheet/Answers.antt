-- `sheet::check_sheet` meets its contract. Assumes nothing.
use mathlib.Core.Path.{sym, ◌∙◌}
use native.Mathlib.Omega.{arith}
use Rattle.refusals.specs.Refusals.{or_next_of}
use Rattle.refusals.proofs.Laws.{handed}
use Rattle.sheet.specs.Fields.{transitions_in_of, states_in_of}
use Rattle.sheet.proofs.Rows.{Sizes, sizes, sizes_passed}
use Rattle.sheet.proofs.check_sheet.Goals.{In_ok-check_sizes}
use Rattle.sheet.proofs.check_sheet.Goals as goal

told : (c : In_ok-check_sizes) → let a = c.args in Sizes a.bytes.now (record { transitions = a.transitions.now; states = a.states.now })
told c = sizes _ _ (sym c.check_sizes.ensures ∙ c.in_ok-check_sizes.was)

pub check_part-requires : goal.check_part-requires
check_part-requires c =
    let e = rw c.labels_in-labels.ensures.0 at c.entries.ensures in
    omega (arith, e, (told (goal.at.check_part-requires c).In_ok-check_sizes).exact)

pub returns-in_err-check_part : goal.returns-in_err-check_part
unfolding or_next_of transitions_in_of
returns-in_err-check_part c =
    let e = rw (c.entries.ensures, c.labels_in-labels.ensures.0) at c.check_part.ensures in
    rw (handed c.from_residual-in_err-check_part.ensures.1, ← sizes_passed c.args.bytes.now _, ← c.check_sizes.ensures, c.in_ok-check_sizes.was, ← e, c.in_err-check_part.was)

pub check_part-requires-2 : goal.check_part-requires-2
check_part-requires-2 c =
    let e = rw (c.words_in-words.ensures.0, c.labels_in-labels.ensures.0) at c.entries-2.ensures in
    omega (arith, e, c.states_from.ensures, (told (goal.at.check_part-requires-2 c).In_ok-check_sizes).exact)

pub returns : goal.returns
unfolding or_next_of transitions_in_of states_in_of
returns c =
    let e = rw (c.entries.ensures, c.labels_in-labels.ensures.0) at c.check_part.ensures in
    rw (c.check_part-2.ensures, c.entries-2.ensures, c.states_from.ensures, c.words_in-words.ensures.0, c.labels_in-labels.ensures.0, ← sizes_passed c.args.bytes.now _, ← c.check_sizes.ensures, c.in_ok-check_sizes.was, ← e, c.in_ok-check_part.was)
