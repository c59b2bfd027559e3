-- An answer line says one thing only: no digit is a space, a comma or a line feed, so its parts can be told apart, and digits read back. Assumes nothing.
use mathlib.Core.Path.{◌≡◌, refl, sym, ◌∙◌, ap}
use mathlib.Core.Bool.{Bool, true, false, cond}
use mathlib.Core.List.{List, [], ◌∷◌, ◌++◌, append_assoc}
use Prim.Native.Nat.{ℕ, zero, suc, ◌+◌, ◌/◌, ◌%◌, ◌^◌, ◌<◌, ◌≤◌}
use native.Mathlib.Omega.{arith}
use lib.Dec.{ltb}
use lib.ListN.{length, get_or, drop, length-append}
use lib.Ieee.{Float, binary64, to_bits, of_bits}
use lib.Ieee.Bits.{of_bits-to_bits, to_bits-lt}
use Rattle.answer_line.specs.Digits.{digit, digits, decimal_places, decimal, read_digits}
use Rattle.answer_line.specs.Line.{space, comma, line_feed, sum_digits, further_labels, joined_labels, path_line_of, refused_line_of}
use Rattle.answer_line.specs.Claims.{Sayable, OneSaying}
use Rattle.answer_line.proofs.ReadBack.{read_digits_lem, read_back}

-- ---- parts

-- a text in which a character does not stand
abbrev Without : ℕ → List ℕ → Type 0
Without c [] = Unit {0}
Without c (a ∷ text) = (a ≡ c → ⊥) × Without c text

without_both : (c : ℕ) (a b : List ℕ) → Without c a → Without c b → Without c (a ++ b)
without_both c [] b p q = q
without_both c (x ∷ a) b p q = (p.0, without_both c a b p.1 q)

-- two texts that end where the character first stands
split : (c : ℕ) (a b x y : List ℕ) → Without c a → Without c b → a ++ (c ∷ x) ≡ b ++ (c ∷ y) → (a ≡ b) × (x ≡ y)
split c [] [] x y p q e = (refl, cc)
split c [] (k ∷ b) x y p q e = let z : k ≡ c = cc in absurd (q.0 z)
split c (h ∷ a) [] x y p q e = let z : h ≡ c = cc in absurd (p.0 z)
split c (h ∷ a) (k ∷ b) x y p q e =
    let z : h ≡ k = cc in
    let t : a ++ (c ∷ x) ≡ b ++ (c ∷ y) = cc in
    let r = split c a b x y p.1 q.1 t in
    let s = r.0 in
    (cc, r.1)

-- ---- digits

digit_high : (d : ℕ) → 48 ≤ digit d
unfolding digit
digit_high d = go (ltb d 10)
  where
    go : (b : Bool) → 48 ≤ cond b (48 + d) (55 + d)
    go true = omega arith
    go false = omega arith

without_digits : (c base k n : ℕ) → c < 48 → Without c (digits base k n)
unfolding digits
without_digits c base zero n h = tt
without_digits c base (suc k) n h =
    without_both c (digits base k (n / base)) _ (without_digits c base k (n / base) h) (λ e. omega (arith, digit_high (n % base)), tt)

without_decimal : (c n : ℕ) → c < 48 → Without c (decimal n)
unfolding decimal
without_decimal c n h = without_digits c 10 (decimal_places n) n h

-- the number that digits say
same_number : (n m : ℕ) → n < 2 ^ 64 → m < 2 ^ 64 → decimal n ≡ decimal m → n ≡ m
same_number n m p q e = sym (read_back.number n p) ∙ ap (read_digits 10) e ∙ read_back.number m q

-- ---- labels

-- each label with a comma after it
closed : List ℕ → List ℕ
closed [] = []
closed (label ∷ labels) = decimal label ++ (comma ∷ closed labels)

further_closed : (labels : List ℕ) → further_labels labels ++ (comma ∷ []) ≡ comma ∷ closed labels
unfolding further_labels closed
further_closed [] = refl
further_closed (label ∷ labels) =
    append_assoc (comma ∷ decimal label) (further_labels labels) (comma ∷ []) ∙ ap (λ (rest : List ℕ). (comma ∷ decimal label) ++ rest) (further_closed labels)

joined_closed : (label : ℕ) (labels : List ℕ) → joined_labels (label ∷ labels) ++ (comma ∷ []) ≡ closed (label ∷ labels)
unfolding joined_labels closed
joined_closed label labels =
    append_assoc (decimal label) (further_labels labels) (comma ∷ []) ∙ ap (λ (rest : List ℕ). decimal label ++ rest) (further_closed labels)

abbrev Small : List ℕ → Type 0
Small labels = (i : ℕ) → i < length labels → get_or labels i 0 < 2 ^ 64

no_label : (label : ℕ) (labels : List ℕ) → closed (label ∷ labels) ≡ [] → ⊥
unfolding closed
no_label label labels e = omega (arith, ap length e, length-append (decimal label) (comma ∷ closed labels))

same_closed : (a b : List ℕ) → Small a → Small b → closed a ≡ closed b → a ≡ b
unfolding closed
same_closed [] [] p q e = refl
same_closed [] (m ∷ b) p q e = absurd (no_label m b (sym e))
same_closed (l ∷ a) [] p q e = absurd (no_label l a e)
same_closed (l ∷ a) (m ∷ b) p q e =
    let s = split comma (decimal l) (decimal m) (closed a) (closed b) (without_decimal comma l (omega arith)) (without_decimal comma m (omega arith)) e in
    let h = same_number l m (p 0 (omega arith)) (q 0 (omega arith)) s.0 in
    let t = same_closed a b (λ i k. p (suc i) (omega arith)) (λ i k. q (suc i) (omega arith)) s.1 in
    cc

same_labels : (a b : List ℕ) → 0 < length a → 0 < length b → Small a → Small b → joined_labels a ≡ joined_labels b → a ≡ b
same_labels [] b l k p q e = absurd (omega arith)
same_labels (x ∷ a) [] l k p q e = absurd (omega arith)
same_labels (x ∷ a) (y ∷ b) l k p q e =
    same_closed (x ∷ a) (y ∷ b) p q (sym (joined_closed x a) ∙ ap (λ (t : List ℕ). t ++ (comma ∷ [])) e ∙ joined_closed y b)

without_further : (labels : List ℕ) → Without line_feed (further_labels labels)
unfolding further_labels
without_further [] = tt
without_further (label ∷ labels) =
    without_both line_feed (comma ∷ decimal label) (further_labels labels) (λ e. omega arith, without_decimal line_feed label (omega arith)) (without_further labels)

without_joined : (labels : List ℕ) → Without line_feed (joined_labels labels)
unfolding joined_labels
without_joined [] = tt
without_joined (label ∷ labels) =
    without_both line_feed (decimal label) (further_labels labels) (without_decimal line_feed label (omega arith)) (without_further labels)

-- ---- lines

same_sum : (x y : Float) (a b : List ℕ) → Sayable x a → Sayable y b → sum_digits x ≡ sum_digits y → x ≡ y
same_sum x y a b p q e =
    let back : (z : Float) (l : List ℕ) → Sayable z l → read_digits 16 (sum_digits z) ≡ to_bits binary64 z = λ z l s. read_digits_lem 16 (omega arith) (omega arith) 16 (to_bits binary64 z) (to_bits-lt binary64 z s.binary) in
    let bits : to_bits binary64 x ≡ to_bits binary64 y = sym (back x a p) ∙ ap (read_digits 16) e ∙ back y b q in
    sym (of_bits-to_bits binary64 x p.binary) ∙ ap (of_bits binary64) bits ∙ of_bits-to_bits binary64 y q.binary

one_path : (x y : Float) (a b : List ℕ) → Sayable x a → Sayable y b → path_line_of x a ≡ path_line_of y b → (x ≡ y) × (a ≡ b)
unfolding path_line_of
one_path x y a b p q e =
    let f = split space (sum_digits x) (sum_digits y) _ _ (without_digits space 16 16 (to_bits binary64 x) (omega arith)) (without_digits space 16 16 (to_bits binary64 y) (omega arith)) (ap (drop 5) e) in
    let g = split line_feed (joined_labels a) (joined_labels b) [] [] (without_joined a) (without_joined b) f.1 in
    (same_sum x y a b p q f.0, same_labels a b p.some q.some p.small q.small g.0)

one_refusal : (number place m p : ℕ) → number < 2 ^ 64 → place < 2 ^ 64 → m < 2 ^ 64 → p < 2 ^ 64 → refused_line_of number place ≡ refused_line_of m p → (number ≡ m) × (place ≡ p)
unfolding refused_line_of
one_refusal number place m p a b c d e =
    let f = split space (decimal number) (decimal m) _ _ (without_decimal space number (omega arith)) (without_decimal space m (omega arith)) (ap (drop 8) e) in
    let g = split line_feed (decimal place) (decimal p) [] [] (without_decimal line_feed place (omega arith)) (without_decimal line_feed p (omega arith)) f.1 in
    (same_number number m a c f.0, same_number place p b d g.0)

-- `P` is not `R`
not_both : (x : Float) (labels : List ℕ) (number place : ℕ) → path_line_of x labels ≡ refused_line_of number place → ⊥
unfolding path_line_of refused_line_of
not_both x labels number place e = let z : ◌≡◌ {A = ℕ} 80 82 = ap (λ (t : List ℕ). get_or t 0 0) e in omega arith

pub one_saying : OneSaying
one_saying = record { path = one_path; refused = one_refusal; either = not_both }
