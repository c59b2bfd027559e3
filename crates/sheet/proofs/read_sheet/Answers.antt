-- `sheet::read_sheet` meets its contract. Assumes nothing.
use Prim.Native.Nat.{ℕ, ◌*◌}
use mathlib.Core.Path.{◌≡◌, sym, ◌∙◌}
use native.Mathlib.Omega.{arith}
use Rattle.sheet.specs.Fields.{transitions_in_of, states_in_of}
use Rattle.sheet.proofs.Rows.{Accepts, accepts}
use Rattle.sheet.specs.Promise.{read}
use Rattle.sheet.proofs.Kept.{promised_refused, promised_read}
use Rattle.sheet.proofs.read_sheet.Goals.{In_default}
use Rattle.sheet.proofs.read_sheet.Goals as goal

-- what the accepted sheet gives
told : (c : In_default) → let a = c.args in Accepts a.bytes.now (record { transitions = a.transitions.now; states = a.states.now })
told c = accepts _ _ (sym c.check_sheet.ensures ∙ c.in_default.is)

-- how many entries a table has
size : {n a b x y : ℕ} → n ≡ a * b → a ≡ x → b ≡ y → n ≡ x * y
size n a b = rw (a, b) at n

-- what is said of L and T
says : {a b x y : ℕ} → a ≡ x → b ≡ y → read a b ≡ read x y
says a b = rw (a, b)

pub returns-in-Err : goal.returns-in-Err
returns-in-Err c = promised_refused _ _ _ (sym c.check_sheet.ensures ∙ c.in-Err.is)

pub read_part-requires : goal.read_part-requires
unfolding transitions_in_of
read_part-requires c =
    let a = told (goal.at.read_part-requires c).In_default in
    let e = size c.entries.ensures c.labels_in-labels.ensures.0 c.labels_in-labels.ensures.0 in
    record { n_in_bounds = omega (arith, e, a.sizes_in.exact); n_in_bounds_2 = omega (arith, e, a.sizes_in.room.room.long_transitions); n_value = rw e a.transitions_in }

pub read_part-requires-2 : goal.read_part-requires-2
unfolding states_in_of
read_part-requires-2 c =
    let a = told (goal.at.read_part-requires-2 c).In_default in
    let e = size c.entries-2.ensures c.words_in-words.ensures.0 c.labels_in-labels.ensures.0 in
    record { n_in_bounds = omega (arith, e, c.states_from.ensures, a.sizes_in.exact); n_in_bounds_2 = omega (arith, e, a.sizes_in.room.room.long_states); n_value = rw (e, c.states_from.ensures) a.states_in }

pub returns : goal.returns
unfolding transitions_in_of states_in_of
returns c =
    let e = size c.entries.ensures c.labels_in-labels.ensures.0 c.labels_in-labels.ensures.0 in
    let d = size c.entries-2.ensures c.words_in-words.ensures.0 c.labels_in-labels.ensures.0 in
    promised_read _ _ _ (sym c.check_sheet.ensures ∙ c.in_default.is)
    (says c.labels_in-labels.ensures.0 c.words_in-words.ensures.0)
    (rw e at c.read_part.ensures)
    (rw (d, c.states_from.ensures) at c.read_part-2.ensures)
