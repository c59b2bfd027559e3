-- No two different outcomes satisfy the reader's promise, and some outcome does: every text is well-formed or has a place, and not both. Assumes nothing.
use Rattle.std.specs.Prelude.{Ok, Err, Result}
use Rattle.refusals.specs.declared.Refusal.{Refusal}
use mathlib.Core.Path.{◌≡◌, refl, sym, ap, subst, ◌∙◌}
use mathlib.Core.List.{List}
use mathlib.Core.Logic.{◌⊎◌, inl, inr}
use Prim.Native.Nat.{ℕ}
use native.Mathlib.Omega.{arith}
use Rattle.refusals.specs.Refusals.{numbered}
use Rattle.refusals.specs.Said.{Said, accepted, refused, or_refused}
use Rattle.refusals.proofs.Said.{same_given, same_refusal}
use Rattle.layout.specs.Layout.{Bytes, Line, WellFormed, sequences}
use Rattle.layout.specs.Scan.{look, PlaceOf}
use Rattle.layout.proofs.Read.{one_one}
use Rattle.layout.proofs.Place.{whole_meant, place_meant}
use Rattle.text_tables.specs.Tables.{tables}
use Rattle.read_text.specs.declared.TextSizes.{TextSizes}
use Rattle.read_text.specs.Promise.{Buffers, Outcome, said, sizes_for, checked_of, holding, Yields, Promised, OnlyOne, SomeOutcome}

-- what is said tells the answer
pub told : (a b : Result TextSizes Refusal) → said a ≡ said b → a ≡ b
told (Ok t) (Ok u) h = ap Ok (same_given h)
told (Ok t) (Err v) h = let z : ◌≡◌ {A = ℕ} 0 1 = cc in absurd (omega arith)
told (Err w) (Ok u) h = let z : ◌≡◌ {A = ℕ} 0 1 = cc in absurd (omega arith)
told (Err w) (Err v) h = ap Err (same_refusal h)

-- every text is well-formed or has a place
pub either : (text : Bytes) → WellFormed text ⊎ ((place : ℕ) × PlaceOf text place)
either text = go (look text) refl
  where
    go : (f : Result (Unit {0}) ℕ) → look text ≡ f → WellFormed text ⊎ ((place : ℕ) × PlaceOf text place)
    go (Ok _) e = inl ((whole_meant text).0 e)
    go (Err p) e = inr (p, (place_meant text p).0 e)

both_give : (answer : Said TextSizes) (contents : Buffers) (a b : Outcome) → Yields answer contents a → Yields answer contents b → a ≡ b
both_give said_so contents a b p q =
    let answer = told a.answer b.answer (p.answers ∙ sym q.answers) in
    let after = p.after ∙ sym q.after in
    λ i. record { answer = answer i; after = after i }

pub only_one : OnlyOne
only_one text before a b p q = go (either text)
  where
    go : WellFormed text ⊎ ((place : ℕ) × PlaceOf text place) → a ≡ b
    go (inl h) = both_give _ _ a b (p.whole h.lines h.sound h.made) (q.whole h.lines h.sound h.made)
    go (inr (place, g)) = both_give _ _ a b (p.malformed place g) (q.malformed place g)

-- ---- some outcome does

abbrev pub reading_of : Said TextSizes → Result TextSizes Refusal
reading_of (accepted sizes) = Ok sizes
reading_of (refused why) = Err why

pub said_back : (s : Said TextSizes) → said (reading_of s) ≡ s
said_back (accepted sizes) = refl
said_back (refused why) = refl

pub same_place : (text : Bytes) (p r : ℕ) → PlaceOf text p → PlaceOf text r → p ≡ r
same_place text p r g h = let e : ◌≡◌ {A = Result (Unit {0}) ℕ} (Err p) (Err r) = sym ((place_meant text p).1 g) ∙ (place_meant text r).1 h in cc

pub some_outcome : SomeOutcome
some_outcome text before = go (either text)
  where
    go : WellFormed text ⊎ ((place : ℕ) × PlaceOf text place) → (outcome : Outcome) × Promised text before outcome
    go (inl h) =
        let ss = sequences h.lines in
        let check = checked_of text ss before in
        let says : Said TextSizes = or_refused check (accepted (sizes_for ss)) in
        let made : Outcome = record { answer = reading_of says; after = holding check (tables ss) before } in
        let own : Yields says (holding check (tables ss) before) made = record { answers = said_back says; after = refl } in (
          made,
          record {
            malformed = λ place g. absurd (g.malformed h);
            whole = λ ls sound e.
                subst (λ (ms : List Line). Yields (or_refused (checked_of text (sequences ms) before) (accepted (sizes_for (sequences ms)))) (holding (checked_of text (sequences ms) before) (tables (sequences ms)) before) made)
                (one_one h.lines ls h.sound sound (h.made ∙ sym e)) own;
          },
        )
    go (inr (p, g)) =
        let made : Outcome = record { answer = Err (numbered 11 p); after = before } in (
          made,
          record {
            malformed = λ r k. record { answers = ap (λ (n : ℕ). refused (numbered 11 n)) (same_place text p r g k); after = refl };
            whole = λ ls sound e. absurd (g.malformed (record { lines = ls; sound = sound; made = e }));
          },
        )
