-- Ids by first appearance, name by name. Assumes nothing.
use mathlib.Core.Path.{◌≡◌, refl, sym, ap, subst, ◌∙◌}
use mathlib.Core.Bool.{Bool, true, false}
use mathlib.Core.List.{List, [], ◌∷◌, ◌++◌, append_assoc, append-nil}
use mathlib.Core.Logic.{◌⊎◌, inl, inr}
use Prim.Native.Nat.{ℕ, ◌+◌, ◌<◌}
use native.Mathlib.Nat.{not-suc-le-zero, eq-or-lt_of_le}
use native.Mathlib.Omega.{arith}
use lib.Dec.{ltb}
use lib.ListN.{length, get_or, length-append, get_or-append}
use lib.Seq.{get_or-append_seam}
use borrow.Author.Tests.{ltb-true, ltb-false}
use Rattle.layout.specs.Layout.{Bytes}
use Rattle.text_tables.specs.Distinct.{id_in, learnt, learnt_all, FirstAppearance, IdsByFirstAppearance}
use Rattle.text_tables.proofs.Known.{id_at_most, id_name, id_before, id_new, learnt_known, learnt_new}

-- a place of a list with one more behind it
last_or : {n : ℕ} (xs : List Bytes) (x : Bytes) → n < length (xs ++ (x ∷ [])) → (n ≡ length xs) ⊎ (n < length xs)
last_or xs x h = eq-or-lt_of_le (let l = rw (length-append xs (x ∷ [])) at h in omega (arith, l))

module _ (seen known : List Bytes) (n : Bytes) (f : FirstAppearance seen known) where
  front : (q : ℕ) → q < length seen → get_or (seen ++ (n ∷ [])) q [] ≡ get_or seen q []
  front q l = get_or-append seen (n ∷ []) [] q l

  -- a name that is known
  known_already : id_in known n < length known → FirstAppearance (seen ++ (n ∷ [])) known
  known_already h = record {
    all_known = λ i l. at_known i (last_or seen n l);
    leads_back = λ i l. at_back i (last_or seen n l);
    none_twice = f.none_twice;
    in_order = order;
  }
    where
      at_known : (i : ℕ) → (i ≡ length seen) ⊎ (i < length seen) → id_in known (get_or (seen ++ (n ∷ [])) i []) < length known
      at_known i (inl e) = rw (e, get_or-append_seam seen n [] []) h
      at_known i (inr l) = rw (front i l) (f.all_known i l)

      at_back : (i : ℕ) → (i ≡ length seen) ⊎ (i < length seen) → get_or known (id_in known (get_or (seen ++ (n ∷ [])) i [])) [] ≡ get_or (seen ++ (n ∷ [])) i []
      at_back i (inl e) = rw (e, get_or-append_seam seen n [] []) (id_name known n [] h)
      at_back i (inr l) = rw (front i l) (f.leads_back i l)

      order : (k : ℕ) → k < length known → (p : ℕ) × (p < length (seen ++ (n ∷ []))) × (get_or (seen ++ (n ∷ [])) p [] ≡ get_or known k []) × ((q : ℕ) → q < p → id_in known (get_or (seen ++ (n ∷ [])) q []) < k)
      order k l =
          let o = f.in_order k l in
          let inside = o.1 in (
            o.0,
            rw (length-append seen (n ∷ [])) (omega (arith, inside)),
            front o.0 inside ∙ o.2,
            λ q m. let before : q < length seen = omega (arith, m, inside) in rw (front q before) (o.3 q m),
          )

  -- a new one
  new_name : id_in known n ≡ length known → FirstAppearance (seen ++ (n ∷ [])) (known ++ (n ∷ []))
  new_name e = record {
    all_known = λ i l. at_known i (last_or seen n l);
    leads_back = λ i l. at_back i (last_or seen n l);
    none_twice = λ k l. at_own k (last_or known n l);
    in_order = λ k l. order k (last_or known n l);
  }
    where
      own : id_in (known ++ (n ∷ [])) n ≡ length known
      own = id_new known n (omega (arith, e)) ∙ e

      same_id : (q : ℕ) → q < length seen → id_in (known ++ (n ∷ [])) (get_or seen q []) ≡ id_in known (get_or seen q [])
      same_id q l = id_before known (n ∷ []) (get_or seen q []) (f.all_known q l)

      at_known : (i : ℕ) → (i ≡ length seen) ⊎ (i < length seen) → id_in (known ++ (n ∷ [])) (get_or (seen ++ (n ∷ [])) i []) < length (known ++ (n ∷ []))
      at_known i (inl p) = rw (p, get_or-append_seam seen n [] [], own, length-append known (n ∷ [])) (omega arith)
      at_known i (inr l) = let h = f.all_known i l in rw (front i l, same_id i l, length-append known (n ∷ [])) (omega (arith, h))

      at_back : (i : ℕ) → (i ≡ length seen) ⊎ (i < length seen) → get_or (known ++ (n ∷ [])) (id_in (known ++ (n ∷ [])) (get_or (seen ++ (n ∷ [])) i [])) [] ≡ get_or (seen ++ (n ∷ [])) i []
      at_back i (inl p) = rw (p, get_or-append_seam seen n [] [], own) (get_or-append_seam known n [] [])
      at_back i (inr l) = rw (front i l, same_id i l) (get_or-append known (n ∷ []) [] (id_in known (get_or seen i [])) (f.all_known i l) ∙ f.leads_back i l)

      at_own : (k : ℕ) → (k ≡ length known) ⊎ (k < length known) → id_in (known ++ (n ∷ [])) (get_or (known ++ (n ∷ [])) k []) ≡ k
      at_own k (inl p) = rw (p, get_or-append_seam known n [] []) own
      at_own k (inr l) =
          let t = f.none_twice k l in
          let below : id_in known (get_or known k []) < length known = rw t l in
          rw (get_or-append known (n ∷ []) [] k l) (id_before known (n ∷ []) (get_or known k []) below ∙ t)

      order : (k : ℕ) → (k ≡ length known) ⊎ (k < length known) →
          (p : ℕ) × (p < length (seen ++ (n ∷ []))) × (get_or (seen ++ (n ∷ [])) p [] ≡ get_or (known ++ (n ∷ [])) k []) × ((q : ℕ) → q < p → id_in (known ++ (n ∷ [])) (get_or (seen ++ (n ∷ [])) q []) < k)
      order k (inl p) = (
        length seen,
        rw (length-append seen (n ∷ [])) (omega arith),
        get_or-append_seam seen n [] [] ∙ sym (get_or-append_seam known n [] []) ∙ ap (λ (j : ℕ). get_or (known ++ (n ∷ [])) j []) (sym p),
        λ q m. rw (front q m, same_id q m, p) (f.all_known q m),
      )
      order k (inr l) =
          let o = f.in_order k l in
          let inside = o.1 in (
            o.0,
            rw (length-append seen (n ∷ [])) (omega (arith, inside)),
            front o.0 inside ∙ o.2 ∙ sym (get_or-append known (n ∷ []) [] k l),
            λ q m. let before : q < length seen = omega (arith, m, inside) in rw (front q before, same_id q before) (o.3 q m),
          )

  pub one_more : FirstAppearance (seen ++ (n ∷ [])) (learnt known n)
  one_more = go (ltb (id_in known n) (length known)) refl
    where
      go : (b : Bool) → ltb (id_in known n) (length known) ≡ b → FirstAppearance (seen ++ (n ∷ [])) (learnt known n)
      go true p = let h = ltb-true (id_in known n) (length known) p in subst (FirstAppearance (seen ++ (n ∷ []))) (sym (learnt_known known n h)) (known_already h)
      go false p =
          let h = ltb-false (id_in known n) (length known) p in
          let m = id_at_most known n in
          let e : id_in known n ≡ length known = omega (arith, h, m) in
          subst (FirstAppearance (seen ++ (n ∷ []))) (sym (learnt_new known n e)) (new_name e)

each_more : (seen known ns : List Bytes) → FirstAppearance seen known → FirstAppearance (seen ++ ns) (learnt_all known ns)
unfolding learnt_all
each_more seen known [] f = rw (append-nil seen) f
each_more seen known (n ∷ ns) f =
    subst (λ (ms : List Bytes). FirstAppearance ms (learnt_all (learnt known n) ns)) (append_assoc seen (n ∷ []) ns)
    (each_more (seen ++ (n ∷ [])) (learnt known n) ns (one_more seen known n f))

pub ids_by_first_appearance : IdsByFirstAppearance
ids_by_first_appearance ns =
    let none : FirstAppearance [] [] = record {
      all_known = λ i l. absurd (not-suc-le-zero l);
      leads_back = λ i l. absurd (not-suc-le-zero l);
      none_twice = λ k l. absurd (not-suc-le-zero l);
      in_order = λ k l. absurd (not-suc-le-zero l);
    } in
    each_more [] [] ns none
