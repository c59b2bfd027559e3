-- What the check of a text's bytes tells of it. Assumes nothing.
use Rattle.std.specs.Prelude.{Ok, Err, Result}
use mathlib.Core.Path.{◌≡◌, refl, sym, ◌∙◌}
use Prim.Native.Nat.{ℕ}
use native.Mathlib.Omega.{arith}
use lib.Dec.{ltb}
use lib.ListN.{length}
use borrow.Author.Tests.{ltb-false}
use Rattle.refusals.specs.declared.Refusal.{Refusal}
use Rattle.refusals.specs.Refusals.{or_next_of}
use Rattle.refusals.proofs.Laws.{passes, never}
use Rattle.layout.specs.Layout.{Bytes}
use Rattle.layout.specs.Scan.{look}
use Rattle.layout.proofs.Place.{whole_meant, place_meant}
use Rattle.text_check.specs.Rows.{too_long_of}
use Rattle.text_bytes.specs.Bytes.{malformed_at, bytes_checked, Readable, BytesRefused, BytesMean}

readable : (text : Bytes) → bytes_checked text ≡ Ok tt → Readable text
unfolding or_next_of
readable text e = go (look text) refl e
  where
    go : (f : Result (Unit {0}) ℕ) → look text ≡ f → or_next_of (malformed_at f) (too_long_of (length text)) ≡ Ok tt → Readable text
    go (Ok _) w e = record { formed = (whole_meant text).0 w; small = ltb-false 4294967295 (length text) (passes 2 0 (ltb 4294967295 (length text)) e) }
    go (Err p) w e = absurd (never {A = ⊥} e refl)

whole_at : {A : Type 0} {p : ℕ} → ◌≡◌ {A = Result (Unit {0}) ℕ} (Ok tt) (Err p) → A
whole_at {A} {p} e = let z : ◌≡◌ {A = ℕ} 0 1 = cc in absurd (omega arith)

refused_bytes : (text : Bytes) (why : Refusal) → bytes_checked text ≡ Err why → BytesRefused text why
unfolding or_next_of
refused_bytes text why e = go (look text) refl e
  where
    go : (f : Result (Unit {0}) ℕ) → look text ≡ f → or_next_of (malformed_at f) (too_long_of (length text)) ≡ Err why → BytesRefused text why
    go (Ok _) w e = record { malformed = λ place g. whole_at (sym w ∙ (place_meant text place).1 g); whole = λ h. e }
    go (Err p) w e = record {
      malformed = λ place g. let same : Err p ≡ Err place = sym w ∙ (place_meant text place).1 g in cc;
      whole = λ h. whole_at (sym ((whole_meant text).1 h) ∙ w);
    }

pub bytes_mean : (text : Bytes) → BytesMean text
bytes_mean text = record { accepted = readable text; refused = refused_bytes text }
