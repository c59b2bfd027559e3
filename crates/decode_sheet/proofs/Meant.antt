-- What `decode_sheet` answers and what is printed mean what the rows of the file mean. Assumes nothing.
use Rattle.std.specs.Prelude.{Ok, Err}
use mathlib.Core.Path.{◌≡◌, refl, sym, ◌∙◌, ap}
use mathlib.Core.List.{List, [], ◌∷◌}
use mathlib.Core.Logic.{◌↔◌, inl, inr}
use Prim.Native.Nat.{ℕ, zero, suc, ◌^◌, ◌-◌, ◌<◌}
use native.Mathlib.Nat.{mul-le-mul}
use native.Mathlib.Omega.{arith}
use lib.Dec.{T}
use lib.ListN.{length, get_or, take, drop}
use lib.Seq.{take_at}
use lib.Ieee.{Float, nan, binary64, fits}
use lib.Ieee.Bits.{of_bits-fits}
use lib.Ieee.Fits.{nan-fits, add-fits}
use Rattle.refusals.specs.Refusals.{Checked, numbered, refused_at}
use Rattle.best_path.specs.Scores.{Scores, extended}
use Rattle.best_path.specs.Decoded.{best, last_label, decoded_path, decoded_sum}
use Rattle.best_path.proofs.Laws.{decoded_length, decoded_allowed}
use Rattle.score_tables.specs.Meaning.{Row, in_transitions, in_states, SixAt}
use Rattle.score_tables.proofs.Order.{row}
use Rattle.refusal_rows.specs.Given.{OneOf}
use Rattle.sheet.specs.Fields.{labels_in_of, words_in, numbers_in, transitions_in_of, states_in_of}
use Rattle.sheet.specs.RowsMeaning.{InBounds, Meaning}
use Rattle.sheet.proofs.RowsMeant.{file_means, said_so}
use Rattle.refusals.specs.Said.{Said, accepted, refused}
use Rattle.refusals.proofs.Said.{same_parts}
use Rattle.answer_line.specs.Claims.{Sayable}
use Rattle.answer_line.proofs.OneSaying.{one_saying}
use Rattle.answer_line.specs.Line.{path_room}
use Rattle.decode_sheet.specs.Answer.{scores_in, path_line_for, line_short, buffer_checked}
use Rattle.decode_sheet.specs.Promise.{answer_by, answer_to}
use Rattle.decode_sheet.specs.Program.{line_said, printed_line, Printed}
use Rattle.decode_sheet.specs.Meaning.{AnsweringMeans, SaysRefused, SaysPath, PrintingMeans}
use Rattle.decode_sheet.proofs.Rows.{line_means}
use Rattle.decode_sheet.proofs.Print.{path_by, refused_by}

-- ---- the call

module _ (text : List ℕ) (said : Said ℕ) (c : Checked) (e : said ≡ answer_by c text) where
  refused_said : (number place : ℕ) → said ≡ refused (numbered number place) ↔ c ≡ refused_at number place
  refused_said number place = (
    λ h. refused_by text c (numbered number place) (sym h ∙ e),
    λ h. e ∙ ap (λ (c : Checked). answer_by c text) h,
  )

  pub path_said : ((size : ℕ) × (said ≡ accepted size)) ↔ c ≡ Ok tt
  path_said = (λ h. (path_by text c h.0 (sym h.1 ∙ e)).0, λ h. (length text, e ∙ ap (λ (c : Checked). answer_by c text) h))

pub answering_means : AnsweringMeans
unfolding answer_to
answering_means given before outcome p =
    let bytes = given.bytes in
    let c = buffer_checked bytes (length before) in
    said_so (file_means bytes (line_means (length before)))
    (refused_said (path_line_for bytes) _ c p.answers)
    (path_said (path_line_for bytes) _ c p.answers)

-- ---- what the line of a path says

-- a number in bytes is a binary64, and so are their sums
numbers_fit : (n : ℕ) (bytes : List ℕ) (i : ℕ) → T (fits binary64 (get_or (numbers_in n bytes) i nan))
unfolding numbers_in
numbers_fit zero bytes i = nan-fits binary64
numbers_fit (suc n) bytes zero = of_bits-fits binary64 _
numbers_fit (suc n) bytes (suc i) = numbers_fit n (drop 8 bytes) i

best_fits : (s : Scores) → ((word label : ℕ) → T (fits binary64 (s.state word label))) → (word label : ℕ) → T (fits binary64 (best s word label))
unfolding best extended
best_fits s h zero label = h 0 label
best_fits s h (suc word) label = add-fits binary64 _ _

pub sayable : (bytes : List ℕ) → InBounds bytes → Sayable (decoded_sum (scores_in bytes) (words_in bytes)) (decoded_path (scores_in bytes) (words_in bytes))
unfolding decoded_sum states_in_of
sayable bytes b =
    let s = scores_in bytes in
    let n = words_in bytes in
    let e = decoded_length s n b.words.low in
    let a = decoded_allowed s b.labels.low n b.words.low in
    record {
      binary = best_fits s (λ word label. numbers_fit _ _ _) (n - 1) (last_label s n);
      some = rw e b.words.low;
      small = λ i l. omega (arith, a.labels i (rw e at l), b.labels.high);
    }

-- ---- what is printed

-- the program lends room for the longest line
pub always : Row (line_short path_room) 2 (Unit {0})
always = row 2 _ (λ h. tt) (λ u. refl)

abbrev pub rows_mean : (bytes : List ℕ) → Meaning (λ number place. buffer_checked bytes path_room ≡ refused_at number place) (buffer_checked bytes path_room ≡ Ok tt) bytes (Unit {0})
rows_mean bytes = file_means bytes always

-- a refusal's number and place are of 64 bits
known : (bytes : List ℕ) (number place : ℕ) → buffer_checked bytes path_room ≡ refused_at number place → (number < 2 ^ 64) × (place < 2 ^ 64)
known bytes number place h = elim ((rows_mean bytes).only number place h) [ inl e ↦ of_six e | inr z ↦ (few z.1, rw z.0 (omega arith)) ]
  where
    few : OneOf (10 ∷ 1 ∷ 4 ∷ 2 ∷ []) number → number < 2 ^ 64
    few (inl e) = rw e (omega arith)
    few (inr (inl e)) = rw e (omega arith)
    few (inr (inr (inl e))) = rw e (omega arith)
    few (inr (inr (inr (inl e)))) = rw e (omega arith)
    few (inr (inr (inr (inr f)))) = absurd f

    inside : InBounds bytes → SixAt (labels_in_of bytes) (words_in bytes) (transitions_in_of bytes) (states_in_of bytes) place → place < 2 ^ 64
    inside b (in_transitions f) = omega (arith, f.inside, mul-le-mul b.labels.high b.labels.high)
    inside b (in_states t f) = omega (arith, f.inside, mul-le-mul b.words.high b.labels.high)

    of_six : number ≡ 6 → (number < 2 ^ 64) × (place < 2 ^ 64)
    of_six e =
        let s = ((rows_mean bytes).six place).0 (rw e at h) in
        (rw e (omega arith), inside s.0.0.0 s.1)

module _ (bytes line : List ℕ) (printed : line ≡ printed_line bytes) where
  -- the line, by what the rows give
  by_rows : (c : Checked) → buffer_checked bytes path_room ≡ c → line ≡ line_said c (path_line_for bytes)
  unfolding printed_line
  by_rows c e = printed ∙ ap (λ (c : Checked). line_said c (path_line_for bytes)) e

  refused_printed : (number place : ℕ) → SaysRefused line number place ↔ buffer_checked bytes path_room ≡ refused_at number place
  unfolding path_line_for
  refused_printed number place = (λ h. to h (buffer_checked bytes path_room) refl, from)
    where
      to : SaysRefused line number place → (c : Checked) → buffer_checked bytes path_room ≡ c → buffer_checked bytes path_room ≡ refused_at number place
      to h (Ok _) e = absurd (one_saying.either _ _ number place (sym (by_rows _ e) ∙ h.says))
      to h (Err why) e =
          let k = known bytes why.number why.place e in
          let s = one_saying.refused why.number why.place number place k.0 k.1 h.number_in h.place_in (sym (by_rows _ e) ∙ h.says) in
          e ∙ ap Err (same_parts why (numbered number place) s.0 s.1)

      from : buffer_checked bytes path_room ≡ refused_at number place → SaysRefused line number place
      from h = let k = known bytes number place h in record { number_in = k.0; place_in = k.1; says = by_rows _ h }

  path_printed : ((sum : Float) × (labels : List ℕ) × SaysPath line sum labels) ↔ buffer_checked bytes path_room ≡ Ok tt
  unfolding path_line_for
  path_printed = (λ w. to w.2 (buffer_checked bytes path_room) refl, from)
    where
      to : {sum : Float} {labels : List ℕ} → SaysPath line sum labels → (c : Checked) → buffer_checked bytes path_room ≡ c → buffer_checked bytes path_room ≡ Ok tt
      to h (Ok _) e = e
      to h (Err why) e = absurd (one_saying.either _ _ why.number why.place (sym h.says ∙ by_rows _ e))

      from : buffer_checked bytes path_room ≡ Ok tt → (sum : Float) × (labels : List ℕ) × SaysPath line sum labels
      from h = (_, _, record { sayable = sayable bytes ((rows_mean bytes).accepted.0 h).0.in_bounds; says = by_rows _ h })

-- what was written of the line
pub line_printed : {bytes before : List ℕ} {size : ℕ} {after : List ℕ} → Printed bytes before size after → take size after ≡ printed_line bytes
line_printed {bytes} {before} p = rw (p.counted, p.written) (take_at (printed_line bytes) (drop (length (printed_line bytes)) before) (length (printed_line bytes)) refl)

pub printing_means : PrintingMeans
printing_means bytes before size after p =
    said_so (rows_mean bytes) (refused_printed bytes _ (line_printed p)) (path_printed bytes _ (line_printed p))
