-- `decode_rows` meets its contract. The loop's invariant: the words up to the one at hand are done. Assumes nothing.
use mathlib.Core.Path.{◌≡◌, refl, ap}
use Prim.Native.Nat.{◌+◌, ◌-◌, ◌*◌, ◌≤◌, ◌<◌}
use native.Mathlib.Nat.{le_trans}
use native.Mathlib.Omega.{arith}
use lib.ListN.{length}
use Rattle.viterbi_steps.specs.declared.Row.{Row}
use Rattle.viterbi.specs.Answered.{Ready}
use Rattle.viterbi.proofs.Laws.{Done, one_row, first_done, done_as, ready_as, room_as, answered_as, before, done_next, done_last, walk, answered}
use Rattle.viterbi.proofs.decode_rows.Goals.{After-first_row-row, After-next_row, After-next_row-then-word-words, At-loop-word, Else-word-words}
use Rattle.viterbi.proofs.decode_rows.Goals as goal

-- the row has the width of the tables
width : (c : After-first_row-row) → c.first_row-row.result.width ≡ c.args.labels
width c = ap (λ (r : Row). r.width) c.first_row-row.ensures

ready : (c : After-first_row-row) →
    let a = c.args in
    Ready c.first_row-row.result.width a.words a.transitions.now a.states.now a.path.now
ready c = ready_as (width c) c.requires.ready

-- the steps have room for every word
long : (c : At-loop-word) → c.args.words * c.first_row-row.result.width ≤ length c.loop-word.steps
long c = room_as _ (ap (λ (r : Row). r.width) c.first_row-row.ensures) c.loop-word.invariant.1 c.requires.labels_in_bounds

-- a turn has two words to go
two_left : (c : After-next_row) → c.loop-word.word + 2 < c.args.words
two_left c = omega (arith, c.loop-word-test.true)

-- where the loop is left one word may still be to go
one_left : (c : After-next_row-then-word-words) → c.loop-word.word + 1 < c.args.words
one_left c = omega (arith, c.if-word-words.true)

at_most_two : (c : After-next_row-then-word-words) → c.args.words ≤ c.loop-word.word + 2
at_most_two c = omega (arith, c.loop-word-test.false)

pub first_row-row-requires : goal.first_row-row-requires
first_row-row-requires c =
    let z = c.requires.ready.sized in
    (z.labels_in.high, le_trans (one_row c.args.words c.args.labels z.words_in_lem.low) z.room.long_states)

pub loop-word-init : goal.loop-word-init
loop-word-init c =
    (c.requires.ready.sized.words_in_lem.low, refl, refl, first_done c.requires.ready.sized.labels_in.high c.first_row-row.ensures)

pub overflow_add-word : goal.overflow_add-word
overflow_add-word c =
    omega (arith, c.loop-word.invariant.0, c.requires.ready.sized.words_in_lem.high)

pub next_row-requires : goal.next_row-requires
next_row-requires c =
    before (ready (goal.at.next_row-requires c).After-first_row-row) c.loop-word.invariant.3 (long (goal.at.next_row-requires c).At-loop-word) (omega (arith, c.loop-word-test.true)) c.loop-word.invariant.2

pub next_row-requires-in-loop-word : goal.next_row-requires-in-loop-word
next_row-requires-in-loop-word c =
    let done = done_next (ready (goal.at.next_row-requires-in-loop-word c).After-first_row-row) c.loop-word.invariant.3 (long (goal.at.next_row-requires-in-loop-word c).At-loop-word) (omega (arith, two_left (goal.at.next_row-requires-in-loop-word c).After-next_row)) c.loop-word.invariant.2 c.next_row.ensures in
    before (ready (goal.at.next_row-requires-in-loop-word c).After-first_row-row) done (omega (arith, c.next_row.auto.steps, long (goal.at.next_row-requires-in-loop-word c).At-loop-word)) (omega (arith, two_left (goal.at.next_row-requires-in-loop-word c).After-next_row)) c.loop-word.invariant.3.wide

pub loop-word-preserved : goal.loop-word-preserved
loop-word-preserved c =
    let r = ready (goal.at.loop-word-preserved c).After-first_row-row in
    let once = done_next r c.loop-word.invariant.3 (long (goal.at.loop-word-preserved c).At-loop-word) (omega (arith, two_left (goal.at.loop-word-preserved c).After-next_row)) c.loop-word.invariant.2 c.next_row.ensures in
    let two : c.loop-word.word + 1 + 1 ≡ c.loop-word.word + 2 = omega arith in
    let twice = done_next r once (omega (arith, c.next_row.auto.steps, long (goal.at.loop-word-preserved c).At-loop-word)) (omega (arith, two_left (goal.at.loop-word-preserved c).After-next_row)) c.loop-word.invariant.3.wide c.next_row-in-loop-word.ensures in
    (omega (arith, two_left (goal.at.loop-word-preserved c).After-next_row), omega (arith, c.next_row-in-loop-word.auto.steps, c.next_row.auto.steps, c.loop-word.invariant.1), once.wide, done_as two twice)

pub next_row-requires-then-word-words : goal.next_row-requires-then-word-words
next_row-requires-then-word-words c =
    before (ready (goal.at.next_row-requires-then-word-words c).After-first_row-row) c.loop-word.invariant.3 (long (goal.at.next_row-requires-then-word-words c).At-loop-word) c.if-word-words.true c.loop-word.invariant.2

pub finish-requires : goal.finish-requires
finish-requires c =
    let r = ready (goal.at.finish-requires c).After-first_row-row in
    let done = done_last r c.loop-word.invariant.3 (long (goal.at.finish-requires c).At-loop-word) (one_left (goal.at.finish-requires c).After-next_row-then-word-words) (at_most_two (goal.at.finish-requires c).After-next_row-then-word-words) c.loop-word.invariant.2 c.next_row-then-word-words.ensures in
    walk r done (omega (arith, c.next_row-then-word-words.auto.steps, long (goal.at.finish-requires c).At-loop-word))

-- where none is left, the row is the last word's
row_done : (c : Else-word-words) →
    let a = c.args in
    Done c.first_row-row.result.width (a.words - 1) a.transitions.now a.states.now c.loop-word.row.best c.loop-word.steps
row_done c =
    let here : c.loop-word.word ≡ c.args.words - 1 = omega (arith, c.if-word-words.false, c.loop-word.invariant.0) in
    done_as here c.loop-word.invariant.3

pub finish-requires-else-word-words : goal.finish-requires-else-word-words
finish-requires-else-word-words c =
    walk (ready (goal.at.finish-requires-else-word-words c).After-first_row-row) (row_done (goal.at.finish-requires-else-word-words c).Else-word-words) (long (goal.at.finish-requires-else-word-words c).At-loop-word)

pub returns-then-word-words : goal.returns-then-word-words
returns-then-word-words c =
    let r = ready (goal.at.returns-then-word-words c).After-first_row-row in
    let done = done_last r c.loop-word.invariant.3 (long (goal.at.returns-then-word-words c).At-loop-word) (one_left (goal.at.returns-then-word-words c).After-next_row-then-word-words) (at_most_two (goal.at.returns-then-word-words c).After-next_row-then-word-words) c.loop-word.invariant.2 c.next_row-then-word-words.ensures in
    answered_as (width (goal.at.returns-then-word-words c).After-first_row-row) (answered _ r.sized.labels_in.low done c.finish.ensures)

pub returns-else-word-words : goal.returns-else-word-words
returns-else-word-words c =
    answered_as (width (goal.at.returns-else-word-words c).After-first_row-row) (answered _ (ready (goal.at.returns-else-word-words c).After-first_row-row).sized.labels_in.low (row_done (goal.at.returns-else-word-words c).Else-word-words) c.finish-else-word-words.ensures)
