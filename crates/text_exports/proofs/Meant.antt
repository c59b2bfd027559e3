-- What C is told of a training text means what `Meaning` says. Assumes nothing.
use Rattle.std.specs.Prelude.{Result}
use mathlib.Core.Path.{◌≡◌, refl, sym, ap, ◌∙◌}
use mathlib.Core.List.{List, [], ◌∷◌}
use Prim.Native.Nat.{ℕ, ◌<◌}
use native.Mathlib.Omega.{arith}
use lib.ListN.{length}
use Rattle.refusals.specs.declared.Refusal.{Refusal}
use Rattle.refusals.specs.Refusals.{Checked, numbered, refused_at}
use Rattle.refusals.specs.Said.{Said, accepted, refused}
use Rattle.refusal_rows.proofs.Groups.{above_zero}
use Rattle.layout.specs.Layout.{Bytes, Word}
use Rattle.text_tables.specs.Written.{written_text}
use Rattle.read_text.specs.declared.TextSizes.{TextSizes}
use Rattle.read_text.specs.Promise.{Buffers, said, sizes_for}
use Rattle.read_text.specs.Meaning.{sequences_of, TextAnswerMeans}
use Rattle.read_text.proofs.Meant.{promise_means, sizes_mean}
use Rattle.write_text.specs.Promise.{checked_of, answer_to}
use Rattle.write_text.proofs.Meant.{told, writing_means}
use Rattle.answers.specs.Given.{Gives}
use Rattle.answers.proofs.Told.{gives_refusal, refusal_given, zero_accepted}
use Rattle.text_exports.specs.declared.ReadText.{ReadText}
use Rattle.text_exports.specs.Numbers.{read_numbers, written_numbers}
use Rattle.text_exports.specs.Promise.{ReadOutcome, Reads}
use Rattle.text_exports.specs.Meaning.{ReadingTells, ReadsMean, SizesMean, WritesMean}

-- ---- reading: a number other than 0 tells the refusal, and 0 that there is none
gives_refused : (s : Said TextSizes) (n p : ℕ) → Gives (read_numbers s).number (read_numbers s).place n p → s ≡ refused (numbered n p)
gives_refused (accepted sizes) n p g = absurd (omega (arith, g.refusal, g.number_is))
gives_refused (refused why) n p g = rw (← g.number_is, ← g.place_is)

refused_given : (s : Said TextSizes) (n p : ℕ) → 0 < n → s ≡ refused (numbered n p) → Gives (read_numbers s).number (read_numbers s).place n p
refused_given s n p above h = rw h (record { refusal = above; number_is = refl; place_is = refl })

zero_taken : (s : Said TextSizes) → ((why : Refusal) → s ≡ refused why → 0 < why.number) → (read_numbers s).number ≡ 0 → (sizes : TextSizes) × (s ≡ accepted sizes)
zero_taken (accepted sizes) above h = (sizes, refl)
zero_taken (refused why) above h = absurd (omega (arith, above why refl, h))

tells : (text : Bytes) (Fits : List (List Word) → Type 0) (reading : Result TextSizes Refusal) (answer : ReadText) →
    answer ≡ read_numbers (said reading) → TextAnswerMeans text Fits reading → ReadingTells text Fits answer
tells text Fits reading answer e m =
    let s : Said TextSizes = said reading in
    rw e
    (record {
      eleven = λ place. (λ g. (m.eleven place).0 (gives_refused s 11 place g), λ f. refused_given s 11 place (omega arith) ((m.eleven place).1 f));
      two = λ place. (λ g. (m.two place).0 (gives_refused s 2 place g), λ f. refused_given s 2 place (omega arith) ((m.two place).1 f));
      four = λ place. (λ g. (m.four place).0 (gives_refused s 4 place g), λ f. refused_given s 4 place (omega arith) ((m.four place).1 f));
      only = λ n p g. m.only (numbered n p) (gives_refused s n p g);
      taken = (
        λ z.
            let t = zero_taken s (λ why h. above_zero (2 ∷ 4 ∷ 11 ∷ []) why.number tt (m.only why h)) z in
            let f = (m.taken t.0).0 t.1 in
            (f.0, f.1, f.2, ap read_numbers (t.1 ∙ ap accepted f.3)),
        λ f. ap (λ (x : Said TextSizes). (read_numbers x).number) ((m.taken (sizes_for (sequences_of f.0))).1 (f.0, f.1, f.2, refl)),
      );
    })

pub reads_mean : ReadsMean
reads_mean text before outcome kept = tells text _ kept.reading outcome.answer kept.answers (promise_means text before _ kept.promised)

-- of an accepted reading
pub accepted_sizes : (text : Bytes) (before : Buffers) (outcome : ReadOutcome) (kept : Reads text before outcome) → outcome.answer.number ≡ 0 → (sizes : TextSizes) × (said kept.reading ≡ accepted sizes)
accepted_sizes text before outcome kept zero =
    let m = promise_means text before _ kept.promised in
    let number : (read_numbers (said kept.reading)).number ≡ 0 = sym (ap (λ (a : ReadText). a.number) kept.answers) ∙ zero in
    zero_taken (said kept.reading) (λ why h. above_zero (2 ∷ 4 ∷ 11 ∷ []) why.number tt (m.only why h)) number

pub sizes_tell : SizesMean
sizes_tell text answer kept = tells text _ kept.reading answer kept.answers (sizes_mean text kept.reading kept.promised)

-- ---- writing

pub writes_mean : WritesMean
unfolding answer_to
writes_mean given before outcome kept =
    let check : Checked = checked_of given before in
    let bytes : ℕ = length (written_text given.tables) in
    let number : Said ℕ → ℕ = λ s. (written_numbers s).number in
    let place : Said ℕ → ℕ = λ s. (written_numbers s).place in
    let m = writing_means given (length before) in
    let above : (n p : ℕ) → check ≡ refused_at n p → 0 < n = λ n p h. above_zero (1 ∷ 2 ∷ 3 ∷ 4 ∷ 5 ∷ 2 ∷ 11 ∷ []) n tt (m.only n p h) in
    rw kept.answers
    (told
    (λ n p. (
      gives_refusal number place bytes refl (λ why. refl) (λ why. refl) check n p,
      λ h. refusal_given number place bytes refl (λ why. refl) (λ why. refl) check n p (above n p h) h,
    ))
    (zero_accepted number place bytes refl (λ why. refl) (λ why. refl) check above)
    m)
