-- The promise, by the two answers. Assumes nothing.
use Rattle.std.specs.Prelude.{Ok, Err}
use mathlib.Core.Path.{◌≡◌, ◌∙◌}
use mathlib.Core.List.{List}
use Prim.Native.Nat.{ℕ, ◌*◌}
use Rattle.refusals.specs.declared.Refusal.{Refusal}
use Rattle.sheet.specs.Fields.{labels_in_of, words_in, transitions_in_of, states_in_of}
use Rattle.sheet.proofs.Bytes.{length_numbers}
use Rattle.sheet.specs.Rows.{Lent, sheet_checked}
use Rattle.sheet.specs.Steps.{filled}
use Rattle.sheet.specs.Promise.{Outcome, said, read, answer_to, transitions_after, states_after, Promised}
use Rattle.sheet.proofs.Laws.{filled_all}

module _ (bytes : List ℕ) (before : Lent) where
  pub promised_refused : (why : Refusal) → sheet_checked (record { bytes = bytes }) before ≡ Err why → Promised (record { bytes = bytes }) before (record { answer = Err why; transitions = before.transitions; states = before.states })
  unfolding answer_to transitions_after states_after
  promised_refused why h = record { answers = rw h; fills_transitions = rw h; fills_states = rw h }

  pub promised_read : (o : Outcome) →
      sheet_checked (record { bytes = bytes }) before ≡ Ok tt →
      said o.answer ≡ read (labels_in_of bytes) (words_in bytes) →
      o.transitions ≡ filled (transitions_in_of bytes) (labels_in_of bytes * labels_in_of bytes) before.transitions →
      o.states ≡ filled (states_in_of bytes) (words_in bytes * labels_in_of bytes) before.states →
      Promised (record { bytes = bytes }) before o
  unfolding answer_to transitions_after states_after transitions_in_of states_in_of
  promised_read o h a t s =
      record {
        answers = rw h a;
        fills_transitions = rw h (t ∙ filled_all _ _ _ (length_numbers _ _));
        fills_states = rw h (s ∙ filled_all _ _ _ (length_numbers _ _));
      }
