-- No two different answers satisfy the promise of the sizes, and some answer does; and what they tell of reading. Assumes nothing.
use Rattle.refusals.specs.declared.Refusal.{Refusal}
use Rattle.std.specs.Prelude.{Ok, Err, Result}
use mathlib.Core.Path.{◌≡◌, refl, sym, ap, subst, ◌∙◌}
use mathlib.Core.List.{List}
use mathlib.Core.Logic.{◌⊎◌, inl, inr}
use Prim.Native.Nat.{ℕ}
use lib.ListN.{length}
use Rattle.refusals.specs.Refusals.{Checked, numbered, refused_at, or_next_of, first_from}
use Rattle.refusals.specs.Said.{accepted, refused, or_refused}
use Rattle.refusals.proofs.Said.{apart, same_given, accepted_said}
use Rattle.refusals.proofs.Laws.{alone}
use Rattle.refusal_rows.specs.Limits.{AllWithin, two}
use Rattle.refusal_rows.specs.Tests.{checks}
use Rattle.refusal_rows.proofs.Means.{two_means}
use Rattle.layout.specs.Layout.{Bytes, Word, Line, WellFormed, sequences}
use Rattle.layout.specs.Scan.{PlaceOf}
use Rattle.layout.proofs.Read.{one_one}
use Rattle.text_tables.specs.Tables.{tables}
use Rattle.text_check.specs.declared.Lengths.{Lengths}
use Rattle.text_check.specs.Rows.{too_long_of, text_counts, text_rooms, sequence_tests, text_sized, text_checked}
use Rattle.text_check.proofs.Meant.{text_checks_mean}
use Rattle.read_text.specs.declared.TextSizes.{TextSizes}
use Rattle.read_text.specs.Promise.{Buffers, Outcome, said, sizes_for, lengths_of, checked_of, Promised}
use Rattle.read_text.specs.Sizes.{sized_of, SizesPromised, OnlyOneSizes, SomeSizes, sizes_rooms, SizesTell, SizesAgree}
use Rattle.read_text.proofs.Unique.{told, either, reading_of, said_back, same_place}
use Rattle.read_text.proofs.Figures.{rooms_are}

pub one_sizes : OnlyOneSizes
one_sizes text a b p q = go (either text)
  where
    go : WellFormed text ⊎ ((place : ℕ) × PlaceOf text place) → a ≡ b
    go (inl h) = told a b (p.whole h.lines h.sound h.made ∙ sym (q.whole h.lines h.sound h.made))
    go (inr (place, g)) = told a b (p.malformed place g ∙ sym (q.malformed place g))

pub some_sizes : SomeSizes
some_sizes text = go (either text)
  where
    go : WellFormed text ⊎ ((place : ℕ) × PlaceOf text place) → (answer : Result TextSizes Refusal) × SizesPromised text answer
    go (inl h) = (
      reading_of (sized_of text (sequences h.lines)),
      record {
        malformed = λ place g. absurd (g.malformed h);
        whole = λ ls sound e.
            said_back (sized_of text (sequences h.lines)) ∙ ap (λ (ms : List Line). sized_of text (sequences ms)) (one_one h.lines ls h.sound sound (h.made ∙ sym e));
      },
    )
    go (inr (p, g)) = (
      Err (numbered 11 p),
      record {
        malformed = λ r k. ap (λ (n : ℕ). refused (numbered 11 n)) (same_place text p r g k);
        whole = λ ls sound e. absurd (g.malformed (record { lines = ls; sound = sound; made = e }));
      },
    )

-- ---- the two checks, of sequences within the bounds or not

module _ (bytes : ℕ) (ss : List (List Word)) (have : Lengths) where
  -- what is accepted with tables is accepted without
  wider : text_checked bytes ss have ≡ Ok tt → text_sized bytes ss ≡ Ok tt
  wider e =
      let m = text_checks_mean bytes ss have in
      let f = m.1.accepted.0 e in
      m.0.accepted.1 ((f.0.0, f.0.1.0), f.1)

  rooms : text_checked bytes ss have ≡ Ok tt → AllWithin (text_rooms (tables ss) have)
  rooms e = ((text_checks_mean bytes ss have).1.accepted.0 e).0.1.1

  narrower : text_sized bytes ss ≡ Ok tt → AllWithin (text_rooms (tables ss) have) → text_checked bytes ss have ≡ Ok tt
  narrower e r =
      let m = text_checks_mean bytes ss have in
      let f = m.0.accepted.0 e in
      m.1.accepted.1 ((f.0.0, (f.0.1, r)), f.1)

  lacking : (AllWithin (text_rooms (tables ss) have) → ⊥) → text_checked bytes ss have ≡ refused_at 2 0
  lacking n = ((text_checks_mean bytes ss have).1.two 0).1 (refl, λ f. n f.1.1)

  -- with room for all the two say the same
  same_checks : AllWithin (text_rooms (tables ss) have) → text_checked bytes ss have ≡ text_sized bytes ss
  unfolding text_checked text_sized
  same_checks r =
      let t : two (text_rooms (tables ss) have) ≡ Ok tt = (two_means (text_rooms (tables ss) have)).accepted.1 r in
      let so_far : Checked = or_next_of (or_next_of (Ok tt) (too_long_of bytes)) (two (text_counts ss)) in
      ap (λ (c : Checked). first_from c (checks (sequence_tests ss))) (ap (or_next_of so_far) t ∙ alone so_far)

-- ---- what an answer with sizes tells

-- a check of the sequences accepted, and these are their sizes
record Accepts (text : Bytes) (check : List (List Word) → Checked) (sizes : TextSizes) : Type 0 where
  formed : WellFormed text
  checked : check (sequences formed.lines) ≡ Ok tt
  sizes_are : sizes ≡ sizes_for (sequences formed.lines)

accepts : (text : Bytes) (check : List (List Word) → Checked) (sizes : TextSizes) (answer : Result TextSizes Refusal) → answer ≡ Ok sizes
    → ((place : ℕ) → PlaceOf text place → said answer ≡ refused (numbered 11 place))
    → ((h : WellFormed text) → said answer ≡ or_refused (check (sequences h.lines)) (accepted (sizes_for (sequences h.lines)))) → Accepts text check sizes
accepts text check sizes answer e malformed says = go (either text)
  where
    go : WellFormed text ⊎ ((place : ℕ) × PlaceOf text place) → Accepts text check sizes
    go (inl h) =
        let own : TextSizes = sizes_for (sequences h.lines) in
        let f : accepted sizes ≡ or_refused (check (sequences h.lines)) (accepted own) = sym (ap said e) ∙ says h in
        let c = accepted_said own sizes (check (sequences h.lines)) (sym f) in
        record { formed = h; checked = c; sizes_are = same_given (f ∙ ap (λ (k : Checked). or_refused k (accepted own)) c) }
    go (inr (place, g)) = absurd (apart (sym (ap said e) ∙ malformed place g))

module _ (text : Bytes) (before : Buffers) (outcome : Outcome) (answer : Result TextSizes Refusal) (p : Promised text before outcome) (q : SizesPromised text answer) where
  reads : (h : WellFormed text) → said outcome.answer ≡ or_refused (checked_of text (sequences h.lines) before) (accepted (sizes_for (sequences h.lines)))
  reads h = (p.whole h.lines h.sound h.made).answers

  sizes_of : (h : WellFormed text) → said answer ≡ sized_of text (sequences h.lines)
  sizes_of h = q.whole h.lines h.sound h.made

  sized : (sizes : TextSizes) → answer ≡ Ok sizes → Accepts text (text_sized (length text)) sizes
  sized sizes e = accepts text (text_sized (length text)) sizes answer e q.malformed sizes_of

  read : (sizes : TextSizes) → outcome.answer ≡ Ok sizes → Accepts text (λ ss. checked_of text ss before) sizes
  read sizes e = accepts text (λ ss. checked_of text ss before) sizes outcome.answer e (λ place g. (p.malformed place g).answers) reads

  abbrev Roomy : TextSizes → Type 0
  Roomy sizes = AllWithin (sizes_rooms sizes (lengths_of before))

  -- the rooms by the sizes are those of the tables
  rooms_by : (sizes : TextSizes) (ss : List (List Word)) → sizes ≡ sizes_for ss → sizes_rooms sizes (lengths_of before) ≡ text_rooms (tables ss) (lengths_of before)
  rooms_by sizes ss e = ap (λ (z : TextSizes). sizes_rooms z (lengths_of before)) e ∙ rooms_are ss (lengths_of before)

  has_room : (sizes : TextSizes) → outcome.answer ≡ Ok sizes → Roomy sizes
  has_room sizes e =
      let a = read sizes e in
      let ss : List (List Word) = sequences a.formed.lines in
      subst AllWithin (sym (rooms_by sizes ss a.sizes_are)) (rooms (length text) ss (lengths_of before) a.checked)

  is_read : (sizes : TextSizes) → answer ≡ Ok sizes → Roomy sizes → outcome.answer ≡ Ok sizes
  is_read sizes e r =
      let a = sized sizes e in
      let ss : List (List Word) = sequences a.formed.lines in
      let c = narrower (length text) ss (lengths_of before) a.checked (subst AllWithin (rooms_by sizes ss a.sizes_are) r) in
      told outcome.answer (Ok sizes)
      (reads a.formed ∙ ap (λ (k : Checked). or_refused k (accepted (sizes_for ss))) c ∙ ap accepted (sym a.sizes_are))

  is_short : (sizes : TextSizes) → answer ≡ Ok sizes → (Roomy sizes → ⊥) → said outcome.answer ≡ refused (numbered 2 0)
  is_short sizes e n =
      let a = sized sizes e in
      let ss : List (List Word) = sequences a.formed.lines in
      let c = lacking (length text) ss (lengths_of before) (λ r. n (subst AllWithin (sym (rooms_by sizes ss a.sizes_are)) r)) in
      reads a.formed ∙ ap (λ (k : Checked). or_refused k (accepted (sizes_for ss))) c

  same_sizes : (sizes : TextSizes) → outcome.answer ≡ Ok sizes → answer ≡ Ok sizes
  same_sizes sizes e =
      let a = read sizes e in
      let ss : List (List Word) = sequences a.formed.lines in
      let c = wider (length text) ss (lengths_of before) a.checked in
      told answer (Ok sizes)
      (sizes_of a.formed ∙ ap (λ (k : Checked). or_refused k (accepted (sizes_for ss))) c ∙ ap accepted (sym a.sizes_are))

pub sizes_tell : SizesTell
sizes_tell text before outcome answer p q = record {
  enough = λ sizes e. (has_room text before outcome answer p q sizes, is_read text before outcome answer p q sizes e);
  short = is_short text before outcome answer p q;
  same = same_sizes text before outcome answer p q;
}

pub sizes_agree : SizesAgree
sizes_agree text before outcome answer p q room = go (either text)
  where
    go : WellFormed text ⊎ ((place : ℕ) × PlaceOf text place) → outcome.answer ≡ answer
    go (inl h) =
        let ss : List (List Word) = sequences h.lines in
        let c = same_checks (length text) ss (lengths_of before) (room h.lines h.sound h.made) in
        told outcome.answer answer ((p.whole h.lines h.sound h.made).answers ∙ ap (λ (k : Checked). or_refused k (accepted (sizes_for ss))) c ∙ sym (q.whole h.lines h.sound h.made))
    go (inr (place, g)) = told outcome.answer answer ((p.malformed place g).answers ∙ sym (q.malformed place g))
