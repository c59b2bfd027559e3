-- 4 of the starts of sequences is the first sequence above 128 words. Assumes nothing.
use mathlib.Core.Path.{◌≡◌, refl, sym, ap, ◌∙◌}
use mathlib.Core.Bool.{Bool, true, false}
use mathlib.Core.List.{List, [], ◌∷◌, map}
use Rattle.std.specs.Prelude.{Some, None, Option}
use Prim.Native.Nat.{ℕ, zero, suc, ◌+◌, ◌-◌, ◌≤◌, ◌<◌}
use native.Mathlib.Nat.{le_of_suc-le-suc, not-suc-le-zero}
use native.Mathlib.Numerals.{add-one}
use native.Mathlib.Omega.{arith}
use lib.Dec.{ltb}
use lib.ListN.{length, get_or}
use borrow.Author.Tests.{ltb-true, ltb-false}
use Rattle.refusals.specs.Meaning.{FirstBad}
use Rattle.refusal_rows.specs.Tests.{lines_fit, line_length, lengths_checked, Bad}
use Rattle.refusal_rows.proofs.Means.{test_means}
use Rattle.layout.specs.Layout.{Word, NoneEmpty}
use Rattle.text_tables.specs.Tables.{starts_from, tables}
use Rattle.text_tables.specs.Tally.{AboveAt}
use Rattle.survey.specs.declared.Survey.{Survey}
use Rattle.text_check.specs.Told.{TellsSequences, long_refused}

-- ---- how many words a sequence has, by the starts

starts_head : (at : ℕ) (ns : List ℕ) → get_or (starts_from at ns) 0 0 ≡ at
unfolding starts_from
starts_head at [] = refl
starts_head at (n ∷ ns) = refl

abbrev lengths : List (List Word) → List ℕ
lengths ss = map (λ (s : List Word). length s) ss

span_length : (at : ℕ) (ss : List (List Word)) (i : ℕ) → i < length ss → get_or (starts_from at (lengths ss)) (suc i) 0 - get_or (starts_from at (lengths ss)) i 0 ≡ length (get_or ss i [])
unfolding starts_from
span_length at [] i h = absurd (not-suc-le-zero h)
span_length at (s ∷ ss) zero h = let e = starts_head (at + length s) (lengths ss) in omega (arith, e)
span_length at (s ∷ ss) (suc i) h = span_length (at + length s) ss i (le_of_suc-le-suc h)

line_length_lem : (ss : List (List Word)) (i : ℕ) → i < length ss → line_length (tables ss).corpus.starts i ≡ length (get_or ss i [])
unfolding tables
line_length_lem ss i h = ap (λ (k : ℕ). get_or (starts_from 0 (lengths ss)) k 0 - get_or (starts_from 0 (lengths ss)) i 0) (add-one i) ∙ span_length 0 ss i h

some_words : (ss : List (List Word)) (i : ℕ) → NoneEmpty ss → i < length ss → 1 ≤ length (get_or ss i [])
some_words [] i n h = absurd (not-suc-le-zero h)
some_words ([] ∷ ss) i n h = absurd n
some_words ((w ∷ ws) ∷ ss) zero n h = omega arith
some_words ((w ∷ ws) ∷ ss) (suc i) n h = some_words ss i n (le_of_suc-le-suc h)

-- ---- the first that is too long

module _ (ss : List (List Word)) (full : NoneEmpty ss) where
  pub above : (i : ℕ) → i < length ss → Bad (lines_fit (tables ss).corpus.starts (length ss)) i → AboveAt ss i
  above i l b = go (ltb 128 (length (get_or ss i []))) refl
    where
      go : (x : Bool) → ltb 128 (length (get_or ss i [])) ≡ x → AboveAt ss i
      go true e = ltb-true 128 (length (get_or ss i [])) e
      go false e =
          let h = ltb-false 128 (length (get_or ss i [])) e in
          let n = line_length_lem ss i l in
          let w = some_words ss i full l in
          absurd (b (record { low = omega (arith, n, w); high = omega (arith, n, h) }))

  pub bad : (i : ℕ) → i < length ss → AboveAt ss i → Bad (lines_fit (tables ss).corpus.starts (length ss)) i
  bad i l a w = let n = line_length_lem ss i l in let h = w.high in omega (arith, a, n, h)

  pub first_bad : (i : ℕ) → FirstBad (AboveAt ss) (length ss) i → FirstBad (Bad (lines_fit (tables ss).corpus.starts (length ss))) (length ss) i
  first_bad i f = record {
    inside = f.inside;
    bad = bad i f.inside f.bad;
    lowest = λ j l b. f.lowest j l (above j (let k = f.inside in omega (arith, k, l)) b);
  }

pub long_same : (ss : List (List Word)) (s : Survey) → TellsSequences ss s → long_refused s.figures.long ≡ lengths_checked (tables ss).corpus.starts (length ss)
long_same ss s g = go s.figures.long refl
  where
    go : (long : Option ℕ) → s.figures.long ≡ long → long_refused long ≡ lengths_checked (tables ss).corpus.starts (length ss)
    go None e =
        sym ((test_means (lines_fit (tables ss).corpus.starts (length ss))).accepted.1 (λ i l b. g.none_long.0 e i l (above ss g.none_empty i l b)))
    go (Some i) e =
        sym (((test_means (lines_fit (tables ss).corpus.starts (length ss))).refused i).1 (first_bad ss g.none_empty i ((g.first_long i).0 e)))
