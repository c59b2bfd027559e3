-- What the tally of a text's pieces comes to: the counts, names and bytes of its sequences, and the first that is too long. Assumes nothing.
use mathlib.Core.Path.{◌≡◌, refl, sym, ap, subst, ◌∙◌}
use mathlib.Core.Bool.{Bool, true, false, cond, ◌&&◌}
use mathlib.Core.List.{List, [], ◌∷◌, ◌++◌, map, flatten, append_assoc, append-nil}
use mathlib.Core.Logic.{◌↔◌}
use Prim.Native.Nat.{ℕ, zero, suc, ◌+◌, ◌<◌, suc-le-suc}
use native.Mathlib.Nat.{suc-ne-zero, suc_inj, add-zero, zero-add, add-suc, suc-add, not-suc-le-zero, le_of_suc-le-suc, zero-lt-suc}
use native.Mathlib.Numerals.{add-one}
use native.Mathlib.Omega.{arith}
use lib.Dec.{eqb, ltb}
use lib.ListN.{length, length-append}
use borrow.Author.Tests.{eqb-true, ne_eqb, ltb-true, ltb-false, lt-ltb}
use Rattle.refusals.specs.Meaning.{FirstBad}
use Rattle.layout.specs.Layout.{Bytes, TextAttribute, Word, Line, word, ended, sequences}
use Rattle.text_tables.specs.Distinct.{learnt, learnt_all, distinct}
use Rattle.text_tables.specs.Tables.{all_attributes, labels_of, names_of, scales_of}
use Rattle.text_tables.specs.Pieces.{blank, label, attribute, line_pieces, pieces_of, after_each}
use Rattle.text_tables.specs.Tally.{Tally, tallied, tally_of, AboveAt, Tallies, TallyMeans}
use Rattle.text_tables.proofs.Lists.{map_append, flatten_append, flatten_one}
use Rattle.text_tables.proofs.Known.{learnt_each, learnt_one}
use Rattle.text_tables.proofs.Passed.{open_words, AtEnd, passed}

-- ---- one word more
pub attributes_more : (vs : List Word) (w : Word) → all_attributes (vs ++ (w ∷ [])) ≡ all_attributes vs ++ w.attributes
attributes_more vs w =
    ap (λ (xs : List (List TextAttribute)). flatten xs) (map_append (λ (v : Word). v.attributes) vs (w ∷ []))
    ∙ flatten_append (map (λ (v : Word). v.attributes) vs) (w.attributes ∷ [])
    ∙ ap (λ (xs : List TextAttribute). all_attributes vs ++ xs) (flatten_one w.attributes)

pub more_length : {A : Type 0} (xs : List A) (x : A) → length (xs ++ (x ∷ [])) ≡ length xs + 1
more_length xs x = length-append xs (x ∷ [])

-- ---- the first sequence above 128 words, counted from 1, the list's first being k + 1
unfoldable long_from : ℕ → List (List Word) → ℕ
long_from k [] = 0
long_from k (s ∷ ss) = cond (ltb 128 (length s)) (suc k) (long_from (suc k) ss)

-- the last of them comes in where none before it is too long
abbrev or_last : ℕ → ℕ → ℕ → ℕ
or_last long k n = cond (eqb long 0) (cond (ltb 128 n) (k + 1) 0) long

long_last : (k : ℕ) (ss : List (List Word)) (s : List Word) → long_from k (ss ++ (s ∷ [])) ≡ or_last (long_from k ss) (k + length ss) (length s)
unfolding long_from
long_last k [] s = ap (λ (n : ℕ). cond (ltb 128 (length s)) n 0) (sym (add-one k) ∙ ap (λ (n : ℕ). n + 1) (sym (add-zero k)))
long_last k (r ∷ ss) s = go (ltb 128 (length r)) (long_last (suc k) ss s)
  where
    go : (t : Bool) → long_from (suc k) (ss ++ (s ∷ [])) ≡ or_last (long_from (suc k) ss) (suc k + length ss) (length s)
        → cond t (suc k) (long_from (suc k) (ss ++ (s ∷ []))) ≡ or_last (cond t (suc k) (long_from (suc k) ss)) (k + suc (length ss)) (length s)
    go true e = rw (ne_eqb (suc k) 0 (suc-ne-zero k))
    go false e = e ∙ ap (λ (n : ℕ). or_last (long_from (suc k) ss) n (length s)) (suc-add k (length ss) ∙ sym (add-suc k (length ss)))

-- too long so far, where the open sequence gets a word
longer : (x n p : ℕ) → cond (eqb (or_last x n p) 0 && ltb 128 (p + 1)) (n + 1) (or_last x n p) ≡ or_last x n (p + 1)
longer x n p = go (eqb x 0) refl (ltb 128 p) refl
  where
    go : (t : Bool) → eqb x 0 ≡ t → (u : Bool) → ltb 128 p ≡ u
        → cond (eqb (cond t (cond u (n + 1) 0) x) 0 && ltb 128 (p + 1)) (n + 1) (cond t (cond u (n + 1) 0) x) ≡ cond t (cond (ltb 128 (p + 1)) (n + 1) 0) x
    go true e true f =
        let h = ltb-true 128 p f in
        rw (ne_eqb (n + 1) 0 (λ q. omega (arith, q)), lt-ltb 128 (p + 1) (omega (arith, h)))
    go true e false f = refl
    go false e u f = rw e

-- where none is open a word begins a sequence, and a sequence of one word is short
opens_short : (x n : ℕ) → cond (eqb x 0 && ltb 128 (0 + 1)) (n + 1) x ≡ or_last x n 1
opens_short x n = go (eqb x 0) refl
  where
    go : (t : Bool) → eqb x 0 ≡ t → cond (t && ltb 128 (0 + 1)) (n + 1) x ≡ cond t (cond (ltb 128 1) (n + 1) 0) x
    go true e = eqb-true x 0 e
    go false e = refl

-- ---- the pass: sequences that are done, and one that is open
abbrev counts_of : List (List Word) → ℕ → List Word → Tally
counts_of ss present vs = record {
  sequences = length ss;
  words = length vs;
  attributes = length (all_attributes vs);
  present = present;
  scale_bytes_of = length (flatten (scales_of (all_attributes vs)));
  labels = distinct (labels_of vs);
  names = distinct (names_of (all_attributes vs));
  long = long_from 0 ss;
}

abbrev counted : List (List Word) → List Word → Tally
counted ss ws = counts_of (ss ++ ended ws) (length ws) (flatten ss ++ ws)

at_blank : (ss : List (List Word)) (ws : List Word) → tallied (counted ss ws) blank ≡ counted (ss ++ ended ws) []
at_blank ss ws =
    ap (λ (rs : List (List Word)). counts_of rs 0 (flatten ss ++ ws)) (sym (append-nil (ss ++ ended ws)))
    ∙ ap (counts_of (ss ++ ended ws ++ []) 0) (sym (open_words ss ws) ∙ sym (append-nil (flatten (ss ++ ended ws))))

-- attributes one after the other
abbrev with_attributes : Tally → List TextAttribute → Tally
with_attributes t xs = record {
  sequences = t.sequences;
  words = t.words;
  attributes = t.attributes + length xs;
  present = t.present;
  scale_bytes_of = t.scale_bytes_of + length (flatten (scales_of xs));
  labels = t.labels;
  names = learnt_all t.names (names_of xs);
  long = t.long;
}

tallied_attributes : (t : Tally) (xs : List TextAttribute) → after_each tallied t (map attribute xs) ≡ with_attributes t xs
unfolding after_each learnt_all flatten
tallied_attributes t [] = λ i. record {
  sequences = t.sequences;
  words = t.words;
  attributes = sym (add-zero t.attributes) i;
  present = t.present;
  scale_bytes_of = sym (add-zero t.scale_bytes_of) i;
  labels = t.labels;
  names = t.names;
  long = t.long;
}
tallied_attributes t (x ∷ xs) =
    let one : t.attributes + 1 + length xs ≡ t.attributes + suc (length xs) = omega arith in
    let more : t.scale_bytes_of + length x.scale + length (flatten (scales_of xs)) ≡ t.scale_bytes_of + length (x.scale ++ flatten (scales_of xs)) = rw (length-append x.scale (flatten (scales_of xs))) (omega arith) in
    tallied_attributes (tallied t (attribute x)) xs
    ∙ (λ i. record {
      sequences = t.sequences;
      words = t.words;
      attributes = one i;
      present = t.present;
      scale_bytes_of = more i;
      labels = t.labels;
      names = learnt_all (learnt t.names x.name) (names_of xs);
      long = t.long;
    })

-- a word begins: the sequences with it
begun : (ss : List (List Word)) (ws : List Word) (w : Word) → cond (eqb (length ws) 0) (length (ss ++ ended ws) + 1) (length (ss ++ ended ws)) ≡ length (ss ++ ended (ws ++ (w ∷ [])))
begun ss [] w = ap (λ (rs : List (List Word)). length rs + 1) (append-nil ss) ∙ sym (more_length ss (w ∷ []))
begun ss (v ∷ ws) w =
    rw (ne_eqb (suc (length ws)) 0 (suc-ne-zero (length ws))) (more_length ss (v ∷ ws) ∙ sym (more_length ss (v ∷ (ws ++ (w ∷ [])))))

long_begun : (ss : List (List Word)) (ws : List Word) (w : Word)
    → cond (eqb (long_from 0 (ss ++ ended ws)) 0 && ltb 128 (length ws + 1)) (cond (eqb (length ws) 0) (length (ss ++ ended ws) + 1) (length (ss ++ ended ws))) (long_from 0 (ss ++ ended ws))
    ≡ long_from 0 (ss ++ ended (ws ++ (w ∷ [])))
long_begun ss [] w =
    ap (λ (rs : List (List Word)). cond (eqb (long_from 0 rs) 0 && ltb 128 (0 + 1)) (length rs + 1) (long_from 0 rs)) (append-nil ss)
    ∙ opens_short (long_from 0 ss) (length ss)
    ∙ ap (λ (n : ℕ). or_last (long_from 0 ss) n 1) (sym (zero-add (length ss)))
    ∙ sym (long_last 0 ss (w ∷ []))
long_begun ss (v ∷ ws) w =
    let n = length (v ∷ ws) in
    rw (ne_eqb (suc (length ws)) 0 (suc-ne-zero (length ws)))
    (ap (λ (k : ℕ). cond (eqb (long_from 0 (ss ++ ((v ∷ ws) ∷ []))) 0 && ltb 128 (n + 1)) k (long_from 0 (ss ++ ((v ∷ ws) ∷ [])))) (more_length ss (v ∷ ws) ∙ ap (λ (k : ℕ). k + 1) (sym (zero-add (length ss))))
    ∙ ap (λ (l : ℕ). cond (eqb l 0 && ltb 128 (n + 1)) (0 + length ss + 1) l) (long_last 0 ss (v ∷ ws))
    ∙ longer (long_from 0 ss) (0 + length ss) n
    ∙ ap (or_last (long_from 0 ss) (0 + length ss)) (sym (more_length (v ∷ ws) w))
    ∙ sym (long_last 0 ss (v ∷ (ws ++ (w ∷ [])))))

-- the words with one more behind them
pub labels_more : (vs : List Word) (w : Word) → distinct (labels_of (vs ++ (w ∷ []))) ≡ learnt (distinct (labels_of vs)) w.label
labels_more vs w =
    ap distinct (map_append (λ (v : Word). v.label) vs (w ∷ []))
    ∙ learnt_each [] (labels_of vs) (w.label ∷ [])
    ∙ learnt_one (distinct (labels_of vs)) w.label

pub names_more : (vs : List Word) (w : Word) → distinct (names_of (all_attributes (vs ++ (w ∷ [])))) ≡ learnt_all (distinct (names_of (all_attributes vs))) (names_of w.attributes)
names_more vs w =
    ap (λ (xs : List TextAttribute). distinct (names_of xs)) (attributes_more vs w)
    ∙ ap distinct (map_append (λ (x : TextAttribute). x.name) (all_attributes vs) w.attributes)
    ∙ learnt_each [] (names_of (all_attributes vs)) (names_of w.attributes)

pub scales_more : (vs : List Word) (w : Word) → flatten (scales_of (all_attributes (vs ++ (w ∷ [])))) ≡ flatten (scales_of (all_attributes vs)) ++ flatten (scales_of w.attributes)
scales_more vs w =
    ap (λ (xs : List TextAttribute). flatten (scales_of xs)) (attributes_more vs w)
    ∙ ap (λ (xs : List Bytes). flatten xs) (map_append (λ (x : TextAttribute). x.scale) (all_attributes vs) w.attributes)
    ∙ flatten_append (scales_of (all_attributes vs)) (scales_of w.attributes)

at_word : (ss : List (List Word)) (ws : List Word) (w : Word) → after_each tallied (counted ss ws) (line_pieces (word w)) ≡ counted ss (ws ++ (w ∷ []))
unfolding after_each
at_word ss ws w =
    let vs : List Word = flatten ss ++ ws in
    let t : Tally = tallied (counted ss ws) (label w.label) in
    let words : length vs + 1 ≡ length (vs ++ (w ∷ [])) = sym (more_length vs w) in
    let attributes : length (all_attributes vs) + length w.attributes ≡ length (all_attributes (vs ++ (w ∷ []))) = sym (length-append (all_attributes vs) w.attributes) ∙ ap length (sym (attributes_more vs w)) in
    let bytes : length (flatten (scales_of (all_attributes vs))) + length (flatten (scales_of w.attributes)) ≡ length (flatten (scales_of (all_attributes (vs ++ (w ∷ []))))) = sym (length-append (flatten (scales_of (all_attributes vs))) (flatten (scales_of w.attributes))) ∙ ap length (sym (scales_more vs w)) in
    tallied_attributes t w.attributes
    ∙ (λ i. record {
      sequences = begun ss ws w i;
      words = words i;
      attributes = attributes i;
      present = sym (more_length ws w) i;
      scale_bytes_of = bytes i;
      labels = sym (labels_more vs w) i;
      names = sym (names_more vs w) i;
      long = long_begun ss ws w i;
    })
    ∙ ap (counts_of (ss ++ ended (ws ++ (w ∷ []))) (length (ws ++ (w ∷ [])))) (append_assoc (flatten ss) ws (w ∷ []))

tally_end : (ls : List Line) → AtEnd tallied counted (sequences ls) (tally_of (pieces_of ls))
unfolding flatten learnt_all long_from
tally_end ls = passed tallied counted at_blank at_word [] [] ls

-- ---- the first sequence that is too long, both ways
long_none : (k : ℕ) (ss : List (List Word)) → long_from k ss ≡ 0 → (i : ℕ) → i < length ss → AboveAt ss i → ⊥
unfolding long_from
long_none k [] e i h a = not-suc-le-zero h
long_none k (s ∷ ss) e i h a = go (ltb 128 (length s)) refl e (long_none (suc k) ss) i h a
  where
    go : (t : Bool) → ltb 128 (length s) ≡ t → cond t (suc k) (long_from (suc k) ss) ≡ 0
        → (long_from (suc k) ss ≡ 0 → (i : ℕ) → i < length ss → AboveAt ss i → ⊥) → (i : ℕ) → i < suc (length ss) → AboveAt (s ∷ ss) i → ⊥
    go true p e rest i h a = suc-ne-zero k e
    go false p e rest zero h a = let q = ltb-false 128 (length s) p in omega (arith, a, q)
    go false p e rest (suc i) h a = rest e i (le_of_suc-le-suc h) a

none_long : (k : ℕ) (ss : List (List Word)) → ((i : ℕ) → i < length ss → AboveAt ss i → ⊥) → long_from k ss ≡ 0
unfolding long_from
none_long k [] h = refl
none_long k (s ∷ ss) h = go (ltb 128 (length s)) refl (none_long (suc k) ss (λ i l a. h (suc i) (suc-le-suc l) a))
  where
    go : (t : Bool) → ltb 128 (length s) ≡ t → long_from (suc k) ss ≡ 0 → cond t (suc k) (long_from (suc k) ss) ≡ 0
    go true p e = absurd (h 0 (zero-lt-suc (length ss)) (ltb-true 128 (length s) p))
    go false p e = e

long_first : (k : ℕ) (ss : List (List Word)) (j : ℕ) → long_from k ss ≡ suc j → (i : ℕ) × (j ≡ k + i) × FirstBad (AboveAt ss) (length ss) i
unfolding long_from
long_first k [] j e = absurd (suc-ne-zero j (sym e))
long_first k (s ∷ ss) j e = go (ltb 128 (length s)) refl e (long_first (suc k) ss j)
  where
    go : (t : Bool) → ltb 128 (length s) ≡ t → cond t (suc k) (long_from (suc k) ss) ≡ suc j
        → (long_from (suc k) ss ≡ suc j → (i : ℕ) × (j ≡ suc k + i) × FirstBad (AboveAt ss) (length ss) i)
        → (i : ℕ) × (j ≡ k + i) × FirstBad (AboveAt (s ∷ ss)) (suc (length ss)) i
    go true p e rest =
        (0, sym (suc_inj e) ∙ sym (add-zero k), record { inside = zero-lt-suc (length ss); bad = ltb-true 128 (length s) p; lowest = λ i l a. not-suc-le-zero l })
    go false p e rest =
        let r = rest e in
        let low : (i : ℕ) → i < suc r.0 → AboveAt (s ∷ ss) i → ⊥ = below r in
        (suc r.0, r.1 ∙ suc-add k r.0 ∙ sym (add-suc k r.0), record { inside = suc-le-suc r.2.inside; bad = r.2.bad; lowest = low })
      where
        below : (r : (i : ℕ) × (j ≡ suc k + i) × FirstBad (AboveAt ss) (length ss) i) → (i : ℕ) → i < suc r.0 → AboveAt (s ∷ ss) i → ⊥
        below r zero l a = let q = ltb-false 128 (length s) p in omega (arith, a, q)
        below r (suc i) l a = r.2.lowest i (le_of_suc-le-suc l) a

first_long : (k : ℕ) (ss : List (List Word)) (i : ℕ) → FirstBad (AboveAt ss) (length ss) i → long_from k ss ≡ suc (k + i)
unfolding long_from
first_long k [] i f = absurd (not-suc-le-zero f.inside)
first_long k (s ∷ ss) zero f = rw (lt-ltb 128 (length s) f.bad, add-zero k)
first_long k (s ∷ ss) (suc i) f =
    go (ltb 128 (length s)) refl
    (first_long (suc k) ss i (record { inside = le_of_suc-le-suc f.inside; bad = f.bad; lowest = λ j l a. f.lowest (suc j) (suc-le-suc l) a }))
  where
    go : (t : Bool) → ltb 128 (length s) ≡ t → long_from (suc k) ss ≡ suc (suc k + i) → cond t (suc k) (long_from (suc k) ss) ≡ suc (k + suc i)
    go true p e = absurd (f.lowest 0 (zero-lt-suc i) (ltb-true 128 (length s) p))
    go false p e = e ∙ ap suc (suc-add k i ∙ sym (add-suc k i))

long_means : (ss : List (List Word)) (i : ℕ) → long_from 0 ss ≡ i + 1 ↔ FirstBad (AboveAt ss) (length ss) i
long_means ss i = (there, λ f. first_long 0 ss i f ∙ ap suc (zero-add i) ∙ sym (add-one i))
  where
    there : long_from 0 ss ≡ i + 1 → FirstBad (AboveAt ss) (length ss) i
    there e =
        let r = long_first 0 ss i (e ∙ add-one i) in
        subst (λ (j : ℕ). FirstBad (AboveAt ss) (length ss) j) (sym (r.1 ∙ zero-add r.0)) r.2

-- ---- all of it
counts_mean : (ss : List (List Word)) (k : ℕ) → Tallies ss (counts_of ss k (flatten ss))
counts_mean ss k = record {
  sequences = refl;
  words = refl;
  attributes = refl;
  scale_bytes_of = refl;
  labels = refl;
  names = refl;
  none_long = (long_none 0 ss, none_long 0 ss);
  first_long = long_means ss;
}

pub tally_means : TallyMeans
tally_means ls =
    let r = tally_end ls in
    let is : tally_of (pieces_of ls) ≡ counts_of (sequences ls) (length r.last) (flatten (sequences ls)) =
    r.is ∙ ap (counts_of (r.done ++ ended r.last) (length r.last)) (sym (open_words r.done r.last))
    ∙ ap (λ (ss : List (List Word)). counts_of ss (length r.last) (flatten ss)) r.all in
    subst (Tallies (sequences ls)) (sym is) (counts_mean (sequences ls) (length r.last))
