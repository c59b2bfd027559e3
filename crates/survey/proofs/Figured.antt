-- The counts with one piece more. Assumes nothing.
use mathlib.Core.Path.{◌≡◌, refl, ap}
use mathlib.Core.Bool.{Bool, true, false, cond, ◌&&◌}
use Rattle.std.specs.Prelude.{Option}
use Prim.Native.Nat.{ℕ, zero, suc, ◌+◌, ◌-◌, ◌≤◌}
use native.Mathlib.Omega.{arith}
use lib.Dec.{eqb, ltb, eqb-suc-zero}
use lib.ListN.{length}
use lib.Seq.{slice, length-slice}
use borrow.Author.Tests.{ltb-true, ltb-false}
use Rattle.layout.specs.Layout.{Bytes}
use Rattle.text_tables.specs.Pieces.{Piece, label}
use Rattle.text_tables.specs.Tally.{Tally, tallied}
use Rattle.pieces.specs.declared.Span.{Span}
use Rattle.pieces.specs.PieceText.{kept_in}
use Rattle.pieces.specs.Standing.{Stands}
use Rattle.pieces.specs.Unescaped.{unescaped}
use Rattle.pieces.proofs.Bare.{bare_shorter}
use Rattle.pieces.proofs.Spans.{kept_none, kept_length}
use Rattle.survey.specs.declared.Figures.{Figures}
use Rattle.survey.specs.declared.NameSums.{NameSums}
use Rattle.survey.specs.Surveyed.{number_before, first_above, figures_of, worded, grown}

first_numbered : (long begun : ℕ) (above : Bool) → first_above (number_before long) above begun ≡ number_before (cond (eqb long 0 && above) begun long)
first_numbered zero begun true = refl
first_numbered zero begun false = refl
first_numbered (suc i) begun above = rw (eqb-suc-zero i) refl

pub word_tallied : (t : Tally) (n : Bytes) → worded (figures_of t) ≡ figures_of (tallied t (label n))
word_tallied t n =
    let begun = cond (eqb t.present 0) (t.sequences + 1) t.sequences in
    let e = first_numbered t.long begun (ltb 128 (t.present + 1)) in
    λ i. record { sequences = begun; words = t.words + 1; attributes = t.attributes; present = t.present + 1; scales = t.scale_bytes_of; long = e i }

pub word_more : (f : Figures) (begun : ℕ) (long : Option ℕ) → begun ≡ cond (eqb f.present 0) (f.sequences + 1) f.sequences → long ≡ first_above f.long (ltb 128 (f.present + 1)) begun
    → ◌≡◌ {A = Figures} (record { sequences = begun; words = f.words + 1; attributes = f.attributes; present = f.present + 1; scales = f.scales; long = long }) (worded f)
word_more f begun long p q = rw (q, p) refl

-- the bytes of a name are within the text's
pub sum_few : (text : Bytes) (from to bytes n : ℕ) → to ≤ length text → length text ≤ 4294967295 → bytes ≤ 4294967295 → n ≡ length (unescaped (slice from to text)) → bytes + n ≤ 8589934590
sum_few text from to bytes n h l b e =
    let s = bare_shorter false (slice from to text) in
    let m = length-slice from to text h in
    omega (arith, s, m, h, l, b, e)

pub grown_new : (known : NameSums) (id n m : ℕ) → eqb id known.count ≡ true → n ≡ m → ◌≡◌ {A = NameSums} (record { count = known.count + 1; bytes = known.bytes + n }) (grown known id m)
grown_new known id n m e f = rw (f, e) refl

pub grown_old : (known : NameSums) (id m : ℕ) → eqb id known.count ≡ false → known ≡ grown known id m
grown_old known id m e = rw e refl

-- the kept text's bytes
pub scale_bytes_lem : {text : Bytes} {s : Span} {p : Piece} → Stands text s p → s.to - s.split - 1 ≡ length (kept_in p)
scale_bytes_lem {text} {s} {p} g = go (ltb s.split s.to) refl
  where
    go : (x : Bool) → ltb s.split s.to ≡ x → s.to - s.split - 1 ≡ length (kept_in p)
    go true e = let h = ltb-true s.split s.to e in omega (arith, kept_length g h, h)
    go false e =
        let h = ltb-false s.split s.to e in
        let z = ap length (kept_none g (omega (arith, h, g.low))) in
        omega (arith, h, z)
