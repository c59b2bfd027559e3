-- Ids do not change with escaping: "a program may compare either". Assumes nothing.
use mathlib.Core.Path.{◌≡◌, refl, sym, ap, ◌∙◌}
use mathlib.Core.Bool.{Bool, true, false, cond, ◌||◌, true≢false}
use mathlib.Core.List.{List, [], ◌∷◌, ◌++◌, map}
use lib.Dec.{ltb, eqb}
use lib.ListN.{length, length-map}
use Rattle.layout.specs.Layout.{Bytes, escaped}
use Rattle.text_tables.specs.Distinct.{same, id_in, learnt, learnt_all}
use Rattle.distinct.proofs.Same.{same_true, same_false, eq_same, ne_same}

-- the way back, behind a backslash or not
back : Bool → Bytes → Bytes
back behind [] = []
back true (b ∷ t) = b ∷ back false t
back false (b ∷ t) = cond (eqb b 92) (back true t) (b ∷ back false t)

bare : (x y : Bool) → x || y ≡ false → y ≡ false
bare true y e = absurd (true≢false e)
bare false y e = e

back_escaped : (n : Bytes) → back false (escaped n) ≡ n
unfolding escaped back
back_escaped [] = refl
back_escaped (b ∷ n) = go (eqb b 58 || eqb b 92) refl (back_escaped n)
  where
    go : (x : Bool) → eqb b 58 || eqb b 92 ≡ x → back false (escaped n) ≡ n → back false (cond x (92 ∷ b ∷ escaped n) (b ∷ escaped n)) ≡ b ∷ n
    go true e again = ap (λ (x : Bytes). b ∷ x) again
    go false e again = rw (bare (eqb b 58) (eqb b 92) e) (ap (λ (x : Bytes). b ∷ x) again)

pub escaped_one_one : (m n : Bytes) → escaped m ≡ escaped n → m ≡ n
escaped_one_one m n e = sym (back_escaped m) ∙ ap (back false) e ∙ back_escaped n

same_escaped : (m n : Bytes) → same (escaped m) (escaped n) ≡ same m n
same_escaped m n = go (same m n) refl
  where
    go : (x : Bool) → same m n ≡ x → same (escaped m) (escaped n) ≡ same m n
    go true e = eq_same (escaped m) (escaped n) (ap escaped (same_true m n e)) ∙ sym e
    go false e = ne_same (escaped m) (escaped n) (λ q. same_false m n e (escaped_one_one m n q)) ∙ sym e

pub id_escaped : (known : List Bytes) (n : Bytes) → id_in (map escaped known) (escaped n) ≡ id_in known n
unfolding id_in
id_escaped [] n = refl
id_escaped (m ∷ known) n = rw (same_escaped m n, id_escaped known n) refl

append_map : (xs ys : List Bytes) → map escaped (xs ++ ys) ≡ map escaped xs ++ map escaped ys
append_map [] ys = refl
append_map (x ∷ xs) ys = ap (λ (zs : List Bytes). escaped x ∷ zs) (append_map xs ys)

pub learnt_escaped : (known : List Bytes) (n : Bytes) → learnt (map escaped known) (escaped n) ≡ map escaped (learnt known n)
unfolding learnt
learnt_escaped known n = rw (id_escaped known n, length-map known escaped) (go (ltb (id_in known n) (length known)))
  where
    go : (x : Bool) → cond x (map escaped known) (map escaped known ++ (escaped n ∷ [])) ≡ map escaped (cond x known (known ++ (n ∷ [])))
    go true = refl
    go false = sym (append_map known (n ∷ []))

pub learnt_all_escaped : (known ns : List Bytes) → learnt_all (map escaped known) (map escaped ns) ≡ map escaped (learnt_all known ns)
unfolding learnt_all
learnt_all_escaped known [] = refl
learnt_all_escaped known (n ∷ ns) = ap (λ (x : List Bytes). learnt_all x (map escaped ns)) (learnt_escaped known n) ∙ learnt_all_escaped (learnt known n) ns
