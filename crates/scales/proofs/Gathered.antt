-- A scale gathered byte by byte is the scale's value. Assumes nothing.
use Rattle.std.proofs.Common.{◌≡◌, ℕ, suc, ◌+◌, ◌-◌, ◌*◌, ◌^◌, ◌<◌, ◌≤◌, Bool, true, false, cond, [], ◌∷◌, ◌++◌, length, drop, sym, refl, ap, ◌∙◌, subst, append-nil, le_trans, pow-suc, add-one, arith, drop_of_length-le, ne_eqb}
use lib.Ieee.{Float, binary64, round}
use Rattle.layout.specs.Layout.{Bytes, Digits, Part, none, point as pointed, part_text, fraction, minus_text, Scale}
use Rattle.scales.specs.declared.Amount.{Amount}
use Rattle.scales.specs.Value.{digits_worth, value_of, taken, Ready}
use Rattle.scales.proofs.Laws.{tens}
use Rattle.scales.proofs.Meant.{value_meant}

abbrev pub gathered : Amount → Bytes → Amount
gathered a [] = a
gathered a (b ∷ s) = gathered (taken a b) s

pub record Within (a : Amount) : Type 0 where
  pub amount : a.amount < 10 ^ a.digits
  pub behind : a.behind ≤ a.digits
  pub few : a.digits ≤ 15

abbrev pub Goes : Amount → Bytes → Type 0
Goes a [] = Within a
Goes a (b ∷ s) = Within a × ((b ≡ 45 → ⊥) → (b ≡ 46 → ⊥) → (48 ≤ b) × (b ≤ 57) × (a.digits < 15)) × Goes (taken a b) s

pub within : (a : Amount) (s : Bytes) → Goes a s → Within a
within a [] g = g
within a (b ∷ s) g = g.0

abbrev digit_taken : Amount → ℕ → Amount
digit_taken a b = record { minus = a.minus; point = a.point; digits = a.digits + 1; amount = a.amount * 10 + (b - 48); behind = cond a.point (a.behind + 1) a.behind }

taken_digit : (a : Amount) (b : ℕ) → 48 ≤ b → taken a b ≡ digit_taken a b
taken_digit a b h = rw (ne_eqb b 45 (λ e. omega (arith, h, e)), ne_eqb b 46 (λ e. omega (arith, h, e))) refl

within_digit : (a : Amount) (b : ℕ) → Within a → 48 ≤ b → b ≤ 57 → a.digits < 15 → Within (digit_taken a b)
within_digit a b w l h d = record {
  amount = grows a.amount a.digits b w.amount l h;
  behind = up a.point a.behind a.digits w.behind;
  few = omega (arith, d);
}
  where
    power : (d : ℕ) → 10 ^ (d + 1) ≡ 10 ^ d * 10
    power d = ap (λ (k : ℕ). 10 ^ k) (add-one d) ∙ pow-suc 10 d

    linear : (m p b : ℕ) → m < p → 48 ≤ b → b ≤ 57 → m * 10 + (b - 48) < p * 10
    linear m p b k l h = omega (arith, k, l, h)

    grows : (m d b : ℕ) → m < 10 ^ d → 48 ≤ b → b ≤ 57 → m * 10 + (b - 48) < 10 ^ (d + 1)
    grows m d b k l h = rw (power d) (linear m (10 ^ d) b k l h)

    up : (x : Bool) (k d : ℕ) → k ≤ d → cond x (k + 1) k ≤ d + 1
    up true k d h = omega (arith, h)
    up false k d h = omega (arith, h)

-- what a run of digits makes
record Run (a : Amount) (ds s : Bytes) : Type 0 where
  last : Amount
  ends : gathered a (ds ++ s) ≡ gathered last s
  goes : Goes last s → Goes a (ds ++ s)
  within : Within last
  minus : last.minus ≡ a.minus
  point : last.point ≡ a.point
  digits : last.digits ≡ a.digits + length ds
  amount : last.amount ≡ digits_worth a.amount ds
  behind : last.behind ≡ cond a.point (a.behind + length ds) a.behind

digit_run : (ds s : Bytes) (a : Amount) → Digits ds → Within a → a.digits + length ds ≤ 15 → Run a ds s
unfolding digits_worth
digit_run [] s a g w f = record {
  last = a;
  ends = refl;
  goes = λ h. h;
  within = w;
  minus = refl;
  point = refl;
  digits = omega arith;
  amount = refl;
  behind = same a.point a.behind;
}
  where
    same : (x : Bool) (k : ℕ) → k ≡ cond x (k + 0) k
    same true k = omega arith
    same false k = refl
digit_run (b ∷ ds) s a g w f =
    let r = digit_run ds s (digit_taken a b) g.2 (within_digit a b w g.0 g.1 (omega (arith, f))) (omega (arith, f)) in
    let e = taken_digit a b g.0 in
    record {
      last = r.last;
      ends = ap (λ (z : Amount). gathered z (ds ++ s)) e ∙ r.ends;
      goes = λ h. (w, (λ _ _. (g.0, g.1, omega (arith, f))), subst (λ (z : Amount). Goes z (ds ++ s)) (sym e) (r.goes h));
      within = r.within;
      minus = r.minus;
      point = r.point;
      digits = let d = r.digits in omega (arith, d);
      amount = r.amount;
      behind = r.behind ∙ onward a.point a.behind (length ds);
    }
  where
    onward : (x : Bool) (k n : ℕ) → cond x (cond x (k + 1) k + n) (cond x (k + 1) k) ≡ cond x (k + suc n) k
    onward true k n = omega arith
    onward false k n = refl

-- the whole scale
abbrev pub start : Amount
start = record { minus = false; point = false; digits = 0; amount = 0; behind = 0 }

pub record Ends (minus : Bool) (whole : Bytes) (part : Part) (a : Amount) (s : Bytes) : Type 0 where
  pub goes : Goes a s
  pub value : round binary64 (gathered a s).minus (gathered a s).amount (10 ^ (gathered a s).behind) ≡ round binary64 minus (digits_worth 0 (whole ++ fraction part)) (10 ^ length (fraction part))

worth_append : (m : ℕ) (s t : Bytes) → digits_worth m (s ++ t) ≡ digits_worth (digits_worth m s) t
unfolding digits_worth
worth_append m [] t = refl
worth_append m (b ∷ s) t = worth_append (m * 10 + (b - 48)) s t

abbrev begun : Bool → Amount
begun m = record { minus = m; point = false; digits = 0; amount = 0; behind = 0 }

within_begun : (m : Bool) → Within (begun m)
within_begun m = record { amount = omega arith; behind = omega arith; few = omega arith }

body : (m : Bool) (whole : Bytes) (part : Part) → Digits whole → Digits (fraction part) → length whole + length (fraction part) ≤ 15 → Ends m whole part (begun m) (whole ++ part_text part)
body m whole none g h few =
    let r = digit_run whole [] (begun m) g (within_begun m) (omega (arith, few)) in
    record {
      goes = r.goes r.within;
      value =
          ap (λ (z : Amount). round binary64 z.minus z.amount (10 ^ z.behind)) r.ends
          ∙ ap (λ (z : Bool). round binary64 z r.last.amount (10 ^ r.last.behind)) r.minus
          ∙ ap (λ (z : ℕ). round binary64 m z (10 ^ r.last.behind)) (r.amount ∙ ap (digits_worth 0) (sym (append-nil whole)))
          ∙ ap (λ (z : ℕ). round binary64 m (digits_worth 0 (whole ++ [])) (10 ^ z)) r.behind;
    }
body m whole (pointed ds) g h few =
    let r = digit_run whole (46 ∷ ds) (begun m) g (within_begun m) (omega (arith, few)) in
    let w = r.within in
    let d = r.digits in
    let p : Amount = record { minus = r.last.minus; point = true; digits = r.last.digits; amount = r.last.amount; behind = r.last.behind } in
    let q = digit_run ds [] p h (record { amount = w.amount; behind = w.behind; few = w.few }) (omega (arith, d, few)) in
    let ew : Bytes = ds ++ [] in
    record {
      goes = r.goes (w, (λ _ no46. absurd (no46 refl)), subst (Goes p) (append-nil ds) (q.goes q.within));
      value =
          ap (λ (z : Amount). round binary64 z.minus z.amount (10 ^ z.behind)) (r.ends ∙ ap (gathered p) (sym (append-nil ds)) ∙ q.ends)
          ∙ ap (λ (z : Bool). round binary64 z q.last.amount (10 ^ q.last.behind)) (q.minus ∙ r.minus)
          ∙ ap (λ (z : ℕ). round binary64 m z (10 ^ q.last.behind)) (q.amount ∙ ap (λ (z : ℕ). digits_worth z ds) r.amount ∙ sym (worth_append 0 whole ds))
          ∙ ap (λ (z : ℕ). round binary64 m (digits_worth 0 (whole ++ ds)) (10 ^ z)) (q.behind ∙ ap (λ (z : ℕ). z + length ds) r.behind ∙ once (length ds));
    }
  where
    once : (x : ℕ) → 0 + x ≡ x
    once x = omega arith

pub scale_ends : (text : Bytes) (h : Scale text) → Ends h.minus h.whole h.part start text
scale_ends text h = subst (Ends h.minus h.whole h.part start) h.made (go h.minus (body h.minus h.whole h.part h.whole_digits h.part_digits h.few))
  where
    go : (m : Bool) → Ends m h.whole h.part (begun m) (h.whole ++ part_text h.part) → Ends m h.whole h.part start (minus_text m ++ (h.whole ++ part_text h.part))
    go true e = record { goes = (within_begun false, (λ no45 _. absurd (no45 refl)), e.goes); value = e.value }
    go false e = e

-- the loop
pub record Gathering (text : Bytes) (a : Amount) (i : ℕ) : Type 0 where
  pub inside : i ≤ length text
  pub goes : Goes a (drop i text)
  pub same : gathered a (drop i text) ≡ gathered start text

pub begins : (text : Bytes) → Scale text → Gathering text start 0
begins text h = record { inside = omega arith; goes = (scale_ends text h).goes; same = refl }

pub bounded : (text : Bytes) (a : Amount) (i : ℕ) → Gathering text a i → (a.amount ≤ 1000000000000000) × (a.behind ≤ 15)
bounded text a i g =
    let w = within a (drop i text) g.goes in
    (le_trans (lower a.amount (10 ^ a.digits) w.amount) (tens a.digits w.few), le_trans w.behind w.few)
  where
    lower : (x y : ℕ) → x < y → x ≤ y
    lower x y h = omega (arith, h)

pub ends : (text : Bytes) (a : Amount) (i : ℕ) → Gathering text a i → length text ≤ i → (r : Float) → r ≡ round binary64 a.minus a.amount (10 ^ a.behind) → Scale text → r ≡ value_of text
ends text a i g past r e h =
    e ∙ ap (λ (z : Amount). round binary64 z.minus z.amount (10 ^ z.behind)) (ap (gathered a) (sym (drop_of_length-le text {i = i} past)) ∙ g.same) ∙ (scale_ends text h).value ∙ sym (value_meant text h)

-- what one byte asks
pub amount_fits : (a : Amount) (b : ℕ) → Ready a b → a.amount ≤ 1000000000000000
amount_fits a b r = le_trans (lower a.amount (10 ^ a.digits) r.amount) (tens a.digits r.few)
  where
    lower : (x y : ℕ) → x < y → x ≤ y
    lower x y h = omega (arith, h)
