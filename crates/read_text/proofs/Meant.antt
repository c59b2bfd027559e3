-- The promises of reading and of the sizes mean what `Meaning` says. Assumes nothing.
use Rattle.std.specs.Prelude.{Ok, Err, Result}
use mathlib.Core.Path.{◌≡◌, sym, ap, subst, ◌∙◌}
use mathlib.Core.List.{List, [], ◌∷◌}
use mathlib.Core.Logic.{◌⊎◌, inl, inr}
use Prim.Native.Nat.{ℕ}
use native.Mathlib.Omega.{arith}
use lib.ListN.{length}
use Rattle.refusals.specs.declared.Refusal.{Refusal}
use Rattle.refusals.specs.Refusals.{Checked, numbered}
use Rattle.refusals.specs.Said.{accepted, refused, or_refused}
use Rattle.refusals.specs.Meaning.{FirstBad}
use Rattle.refusals.proofs.Said.{apart, same_given, same_refusal, refused_said, accepted_said}
use Rattle.refusal_rows.specs.Tests.{AllGood}
use Rattle.refusal_rows.specs.Given.{AtZero, OneOf}
use Rattle.layout.specs.Layout.{Bytes, Word, WellFormed}
use Rattle.layout.specs.Scan.{PlaceOf}
use Rattle.layout.proofs.Runs.{none_empty}
use Rattle.text_tables.specs.Tally.{AboveAt}
use Rattle.text_check.specs.Rows.{sequence_tests, text_sized}
use Rattle.text_check.specs.Meaning.{SizesFit, TextFits, GivenTwoFour}
use Rattle.text_check.proofs.Meant.{text_checks_mean, long_means}
use Rattle.text_check.specs.declared.Lengths.{Lengths}
use Rattle.read_text.specs.declared.TextSizes.{TextSizes}
use Rattle.read_text.specs.Promise.{said, sizes_for, lengths_of, checked_of}
use Rattle.read_text.specs.Meaning.{sequences_of, TextAnswerMeans, PromiseMeans, SizesMean}
use Rattle.read_text.proofs.Unique.{either}

-- an answer that is 11 of a malformed text, and of the sequences of a well-formed one what a check says
module _ (text : Bytes) (answer : Result TextSizes Refusal) (check : List (List Word) → Checked) (Fits : List (List Word) → Type 0)
    (malformed : (place : ℕ) → PlaceOf text place → said answer ≡ refused (numbered 11 place))
    (says : (h : WellFormed text) → said answer ≡ or_refused (check (sequences_of h)) (accepted (sizes_for (sequences_of h))))
    (means : (ss : List (List Word)) → GivenTwoFour (check ss) (Fits ss) ss) where
  -- of a well-formed text a refusal is that of the checks
  check_refused : (h : WellFormed text) (why : Refusal) → said answer ≡ refused why → check (sequences_of h) ≡ Err why
  check_refused h why e = (refused_said (sizes_for (sequences_of h)) (check (sequences_of h)) why).0 (sym (says h) ∙ e)

  said_refused : (h : WellFormed text) (why : Refusal) → check (sequences_of h) ≡ Err why → said answer ≡ refused why
  said_refused h why e = says h ∙ (refused_said (sizes_for (sequences_of h)) (check (sequences_of h)) why).1 e

  -- of a malformed one it is 11
  eleven_only : (place : ℕ) → PlaceOf text place → (why : Refusal) → said answer ≡ refused why → numbered 11 place ≡ why
  eleven_only place g why e = same_refusal (sym (malformed place g) ∙ e)

  not_malformed : (place other number : ℕ) → PlaceOf text place → said answer ≡ refused (numbered number other) → 11 ≡ number
  not_malformed place other number g e = ap (λ (w : Refusal). w.number) (eleven_only place g (numbered number other) e)

  eleven_given : (place : ℕ) → said answer ≡ refused (numbered 11 place) → PlaceOf text place
  eleven_given place e = go (either text)
    where
      none : OneOf (2 ∷ 4 ∷ []) 11 → ⊥
      none (inl f) = omega (arith, f)
      none (inr (inl f)) = omega (arith, f)
      none (inr (inr f)) = f

      go : WellFormed text ⊎ ((place : ℕ) × PlaceOf text place) → PlaceOf text place
      go (inl h) = absurd (none ((means (sequences_of h)).only (numbered 11 place) (check_refused h (numbered 11 place) e)))
      go (inr (r, g)) = subst (PlaceOf text) (ap (λ (w : Refusal). w.place) (eleven_only r g (numbered 11 place) e)) g

  only_these : (why : Refusal) → said answer ≡ refused why → OneOf (2 ∷ 4 ∷ 11 ∷ []) why.number
  only_these why e = go (either text)
    where
      wider : OneOf (2 ∷ 4 ∷ []) why.number → OneOf (2 ∷ 4 ∷ 11 ∷ []) why.number
      wider (inl f) = inl f
      wider (inr (inl f)) = inr (inl f)
      wider (inr (inr f)) = absurd f

      go : WellFormed text ⊎ ((place : ℕ) × PlaceOf text place) → OneOf (2 ∷ 4 ∷ 11 ∷ []) why.number
      go (inl h) = wider ((means (sequences_of h)).only why (check_refused h why e))
      go (inr (r, g)) = inr (inr (inl (sym (ap (λ (w : Refusal). w.number) (eleven_only r g why e)))))

  two_given : (place : ℕ) → said answer ≡ refused (numbered 2 place) → (h : WellFormed text) × AtZero (Fits (sequences_of h)) place
  two_given place e = go (either text)
    where
      go : WellFormed text ⊎ ((place : ℕ) × PlaceOf text place) → (h : WellFormed text) × AtZero (Fits (sequences_of h)) place
      go (inl h) = (h, ((means (sequences_of h)).two place).0 (check_refused h (numbered 2 place) e))
      go (inr (r, g)) = let n = not_malformed r place 2 g e in absurd (omega (arith, n))

  abbrev Long : ℕ → Type 0
  Long place = (h : WellFormed text) × Fits (sequences_of h) × FirstBad (AboveAt (sequences_of h)) (length (sequences_of h)) place

  four_given : (place : ℕ) → said answer ≡ refused (numbered 4 place) → Long place
  four_given place e = go (either text)
    where
      go : WellFormed text ⊎ ((place : ℕ) × PlaceOf text place) → Long place
      go (inl h) = let f = ((means (sequences_of h)).four place).0 (check_refused h (numbered 4 place) e) in (h, f.0, (long_means (sequences_of h) (none_empty h.lines) place).0 f.1)
      go (inr (r, g)) = let n = not_malformed r place 4 g e in absurd (omega (arith, n))

  abbrev Taken : TextSizes → Type 0
  Taken sizes = (h : WellFormed text) × Fits (sequences_of h) × AllGood (sequence_tests (sequences_of h)) × (sizes ≡ sizes_for (sequences_of h))

  taken_given : (sizes : TextSizes) → said answer ≡ accepted sizes → Taken sizes
  taken_given sizes e = go (either text)
    where
      go : WellFormed text ⊎ ((place : ℕ) × PlaceOf text place) → Taken sizes
      go (inl h) =
          let own : TextSizes = sizes_for (sequences_of h) in
          let c : check (sequences_of h) ≡ Ok tt = accepted_said own sizes (check (sequences_of h)) (sym (says h) ∙ e) in
          let f = (means (sequences_of h)).accepted.0 c in
          (h, f.0, f.1, same_given (sym e ∙ says h ∙ ap (λ (c : Checked). or_refused c (accepted own)) c))
      go (inr (r, g)) = absurd (apart (sym e ∙ malformed r g))

  answer_means : TextAnswerMeans text Fits answer
  answer_means = record {
    eleven = λ place. (eleven_given place, malformed place);
    two = λ place. (two_given place, λ f. said_refused f.0 (numbered 2 place) (((means (sequences_of f.0)).two place).1 f.1));
    four = λ place. (
      four_given place,
      λ f. said_refused f.0 (numbered 4 place) (((means (sequences_of f.0)).four place).1 (f.1, (long_means (sequences_of f.0) (none_empty f.0.lines) place).1 f.2)),
    );
    only = only_these;
    taken = λ sizes. (
      taken_given sizes,
      λ f.
          says f.0
          ∙ ap (λ (c : Checked). or_refused c (accepted (sizes_for (sequences_of f.0)))) ((means (sequences_of f.0)).accepted.1 (f.1, f.2))
          ∙ ap accepted (sym f.3),
    );
  }

pub promise_means : PromiseMeans
promise_means text before outcome p =
    answer_means text outcome.answer (λ ss. checked_of text ss before) (λ ss. TextFits (length text) ss (lengths_of before)) (λ place g. (p.malformed place g).answers)
    (λ h. (p.whole h.lines h.sound h.made).answers)
    (λ ss. (text_checks_mean (length text) ss (lengths_of before)).1)

pub sizes_mean : SizesMean
sizes_mean text answer p =
    answer_means text answer (text_sized (length text)) (SizesFit (length text)) p.malformed (λ h. p.whole h.lines h.sound h.made)
    (λ ss. (text_checks_mean (length text) ss none).0)
  where
    none : Lengths
    none = record { lines = 0; begins = 0; ids = 0; values = 0; references = 0; weights = 0; label_starts = 0; label_bytes = 0; name_starts = 0; name_bytes = 0; scale_starts = 0; scale_bytes = 0 }
