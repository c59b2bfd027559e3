-- While the pieces come: what is built is as long as the tally says, counts only grow, names known stay in front, and no count outgrows those above it. Assumes nothing.
use mathlib.Core.Path.{◌≡◌, refl, sym, ap, ◌∙◌}
use mathlib.Core.Bool.{Bool, true, false, cond, not, ◌&&◌}
use mathlib.Core.List.{List, [], ◌∷◌, ◌++◌, append-nil, append_assoc}
use Prim.Native.Nat.{ℕ, ◌+◌, ◌≤◌, ◌<◌}
use native.Mathlib.Nat.{le_refl, le_trans}
use native.Mathlib.Omega.{arith}
use lib.Dec.{eqb, ltb}
use lib.ListN.{length, length-append}
use borrow.Author.Tests.{ne_eqb}
use Rattle.layout.specs.Layout.{Bytes, TextAttribute}
use Rattle.text_tables.specs.Distinct.{id_in, learnt}
use Rattle.text_tables.specs.Pieces.{Piece, blank, label, attribute, after_each}
use Rattle.text_tables.specs.Tally.{Tally, nothing_yet, tallied, tally_of}
use Rattle.text_tables.specs.Built.{Built, nothing_built, built_on, built_of}
use Rattle.text_tables.proofs.Known.{id_before, learnt_behind, learnt_knows, learnt_id}
use Rattle.text_tables.proofs.Tallied.{more_length}

-- ---- as long as the tally says
pub record AsLong (t : Tally) (b : Built) : Type 0 where
  pub line_starts : length b.line_starts ≡ t.sequences
  pub word_starts_of : length b.word_starts_of ≡ t.words
  pub references : length b.references ≡ t.words
  pub ids : length b.ids ≡ t.attributes
  pub values : length b.values ≡ t.attributes
  pub scale_starts_of : length b.scale_starts_of ≡ t.attributes
  pub scales : length b.scales ≡ t.scale_bytes_of
  pub within : b.within ≡ not (eqb t.present 0)

module _ (labels names : List Bytes) where
  one_longer : {A : Type 0} (xs : List A) (x : A) (n : ℕ) → length xs ≡ n → length (xs ++ (x ∷ [])) ≡ n + 1
  one_longer xs x n e = more_length xs x ∙ ap (λ (k : ℕ). k + 1) e

  lines_longer : (xs : List ℕ) (x n p : ℕ) (within : Bool) → within ≡ not (eqb p 0) → length xs ≡ n → length (cond within xs (xs ++ (x ∷ []))) ≡ cond (eqb p 0) (n + 1) n
  lines_longer xs x n p within f e = rw f (go (eqb p 0))
    where
      go : (t : Bool) → length (cond (not t) xs (xs ++ (x ∷ []))) ≡ cond t (n + 1) n
      go true = one_longer xs x n e
      go false = e

  pub longer_by : (t : Tally) (b : Built) (p : Piece) → AsLong t b → AsLong (tallied t p) (built_on labels names b p)
  longer_by t b blank h = record {
    line_starts = h.line_starts;
    word_starts_of = h.word_starts_of;
    references = h.references;
    ids = h.ids;
    values = h.values;
    scale_starts_of = h.scale_starts_of;
    scales = h.scales;
    within = refl;
  }
  longer_by t b (label n) h = record {
    line_starts = lines_longer b.line_starts (length b.references) t.sequences t.present b.within h.within h.line_starts;
    word_starts_of = one_longer b.word_starts_of (length b.ids) t.words h.word_starts_of;
    references = one_longer b.references (id_in labels n) t.words h.references;
    ids = h.ids;
    values = h.values;
    scale_starts_of = h.scale_starts_of;
    scales = h.scales;
    within = rw (ne_eqb (t.present + 1) 0 (λ e. omega (arith, e)));
  }
  longer_by t b (attribute a) h = record {
    line_starts = h.line_starts;
    word_starts_of = h.word_starts_of;
    references = h.references;
    ids = one_longer b.ids _ t.attributes h.ids;
    values = one_longer b.values _ t.attributes h.values;
    scale_starts_of = one_longer b.scale_starts_of _ t.attributes h.scale_starts_of;
    scales = length-append b.scales a.scale ∙ ap (λ (k : ℕ). k + length a.scale) h.scales;
    within = h.within;
  }

  pub as_long_from : (t : Tally) (b : Built) (ps : List Piece) → AsLong t b → AsLong (after_each tallied t ps) (after_each (built_on labels names) b ps)
  unfolding after_each
  as_long_from t b [] h = h
  as_long_from t b (p ∷ ps) h = as_long_from (tallied t p) (built_on labels names b p) ps (longer_by t b p h)

  pub as_long_none : AsLong nothing_yet nothing_built
  as_long_none = record { line_starts = refl; word_starts_of = refl; references = refl; ids = refl; values = refl; scale_starts_of = refl; scales = refl; within = refl }

  pub as_long : (ps : List Piece) → AsLong (tally_of ps) (built_of labels names ps)
  as_long ps = as_long_from nothing_yet nothing_built ps as_long_none

-- ---- counts only grow, and names stay in front
pub record Grown (t u : Tally) : Type 0 where
  pub sequences : t.sequences ≤ u.sequences
  pub words : t.words ≤ u.words
  pub attributes : t.attributes ≤ u.attributes
  pub scale_bytes_of : t.scale_bytes_of ≤ u.scale_bytes_of
  pub labels : (more : List Bytes) × (u.labels ≡ t.labels ++ more)
  pub names : (more : List Bytes) × (u.names ≡ t.names ++ more)

behind_none : (known : List Bytes) → (more : List Bytes) × (known ≡ known ++ more)
behind_none known = ([], sym (append-nil known))

pub grown_by : (t : Tally) (p : Piece) → Grown t (tallied t p)
grown_by t blank = record {
  sequences = le_refl t.sequences;
  words = le_refl t.words;
  attributes = le_refl t.attributes;
  scale_bytes_of = le_refl t.scale_bytes_of;
  labels = behind_none t.labels;
  names = behind_none t.names;
}
grown_by t (label n) = record {
  sequences = go (eqb t.present 0);
  words = omega arith;
  attributes = le_refl t.attributes;
  scale_bytes_of = le_refl t.scale_bytes_of;
  labels = learnt_behind t.labels n;
  names = behind_none t.names;
}
  where
    go : (b : Bool) → t.sequences ≤ cond b (t.sequences + 1) t.sequences
    go true = omega arith
    go false = le_refl t.sequences
grown_by t (attribute a) = record {
  sequences = le_refl t.sequences;
  words = le_refl t.words;
  attributes = omega arith;
  scale_bytes_of = omega arith;
  labels = behind_none t.labels;
  names = learnt_behind t.names a.name;
}

behind_both : (k l m : List Bytes) → (more : List Bytes) × (l ≡ k ++ more) → (more : List Bytes) × (m ≡ l ++ more) → (more : List Bytes) × (m ≡ k ++ more)
behind_both k l m p q = (p.0 ++ q.0, q.1 ∙ ap (λ (x : List Bytes). x ++ q.0) p.1 ∙ append_assoc k p.0 q.0)

pub grown : (t : Tally) (ps : List Piece) → Grown t (after_each tallied t ps)
unfolding after_each
grown t [] = record {
  sequences = le_refl t.sequences;
  words = le_refl t.words;
  attributes = le_refl t.attributes;
  scale_bytes_of = le_refl t.scale_bytes_of;
  labels = behind_none t.labels;
  names = behind_none t.names;
}
grown t (p ∷ ps) =
    let g = grown_by t p in
    let h = grown (tallied t p) ps in
    record {
      sequences = le_trans g.sequences h.sequences;
      words = le_trans g.words h.words;
      attributes = le_trans g.attributes h.attributes;
      scale_bytes_of = le_trans g.scale_bytes_of h.scale_bytes_of;
      labels = behind_both t.labels (tallied t p).labels (after_each tallied (tallied t p) ps).labels g.labels h.labels;
      names = behind_both t.names (tallied t p).names (after_each tallied (tallied t p) ps).names g.names h.names;
    }

-- the id of a name that is met is the same among all names as among those known then, and is one of theirs
stays : (known more : List Bytes) (n : Bytes) {all : List Bytes} → all ≡ learnt known n ++ more → (id_in all n ≡ id_in known n) × (id_in all n < length all)
stays known more n e =
    let k = learnt_knows known n in
    rw e (
      id_before (learnt known n) more n k ∙ learnt_id known n,
      rw (id_before (learnt known n) more n k, length-append (learnt known n) more) (omega (arith, k)),
    )

pub label_id : (t : Tally) (n : Bytes) (ps : List Piece) →
    let all = (after_each tallied t (label n ∷ ps)).labels in
    (id_in all n ≡ id_in t.labels n) × (id_in all n < length all)
unfolding after_each
label_id t n ps = let g = (grown (tallied t (label n)) ps).labels in stays t.labels g.0 n g.1

pub attribute_id : (t : Tally) (a : TextAttribute) (ps : List Piece) →
    let all = (after_each tallied t (attribute a ∷ ps)).names in
    (id_in all a.name ≡ id_in t.names a.name) × (id_in all a.name < length all)
unfolding after_each
attribute_id t a ps = let g = (grown (tallied t (attribute a)) ps).names in stays t.names g.0 a.name g.1

-- ---- no count is above another that it cannot be above
pub record Regular (t : Tally) : Type 0 where
  pub sequences : t.sequences ≤ t.words
  pub present : t.present ≤ t.words
  pub labels : length t.labels ≤ t.words
  pub names : length t.names ≤ t.attributes
  pub long : t.long ≤ t.sequences

one_known_more : (known : List Bytes) (n : Bytes) (k : ℕ) → length known ≤ k → length (learnt known n) ≤ k + 1
unfolding learnt
one_known_more known n k h = go (ltb (id_in known n) (length known))
  where
    go : (b : Bool) → length (cond b known (known ++ (n ∷ []))) ≤ k + 1
    go true = omega (arith, h)
    go false = rw (length-append known (n ∷ [])) (omega (arith, h))

pub regular_none : Regular nothing_yet
regular_none = record { sequences = le_refl 0; present = le_refl 0; labels = le_refl 0; names = le_refl 0; long = le_refl 0 }

pub regular_by : (t : Tally) (p : Piece) → Regular t → Regular (tallied t p)
regular_by t blank h = record { sequences = h.sequences; present = omega arith; labels = h.labels; names = h.names; long = h.long }
regular_by t (label m) h =
    let s = begun (eqb t.present 0) in
    record {
      sequences = s.1;
      present = omega (arith, h.present);
      labels = one_known_more t.labels m t.words h.labels;
      names = h.names;
      long = go (eqb t.long 0 && ltb 128 (t.present + 1)) s.0;
    }
  where
    begun : (b : Bool) → (t.sequences ≤ cond b (t.sequences + 1) t.sequences) × (cond b (t.sequences + 1) t.sequences ≤ t.words + 1)
    begun true = (omega arith, omega (arith, h.sequences))
    begun false = (omega arith, omega (arith, h.sequences))

    go : (b : Bool) {k : ℕ} → t.sequences ≤ k → cond b k t.long ≤ k
    go true l = le_refl _
    go false l = le_trans h.long l
regular_by t (attribute a) h = record {
  sequences = h.sequences;
  present = h.present;
  labels = h.labels;
  names = one_known_more t.names a.name t.attributes h.names;
  long = h.long;
}

pub regular : (t : Tally) (ps : List Piece) → Regular t → Regular (after_each tallied t ps)
unfolding after_each
regular t [] h = h
regular t (p ∷ ps) h = regular (tallied t p) ps (regular_by t p h)
